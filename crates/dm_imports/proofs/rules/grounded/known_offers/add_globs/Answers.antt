use Rattle.std.proofs.Common.{◌∙◌, ◌+◌, Option, ap, drop, subst, sym}
use Rattle.std.proofs.lemmas.List.{drop_all}
use Rattle.std.proofs.lemmas.List.Elements.{All-get_or}
use Rattle.std.specs.Prelude.{fold}
use Rattle.dm_imports.specs.declared.glob_import.GlobImport.{GlobImport}
use Rattle.dm_imports.specs.declared.joined.Joined.{Joined}
use Rattle.dm_imports.specs.Brought.{join}
use Rattle.dm_imports.specs.Grounded.{known_offer}
use Rattle.dm_imports.specs.Grounding.{slots_of}
use Rattle.dm_imports.specs.Rules.{IsGlobKnown}
use Rattle.dm_imports.specs.Slots.{slot_at}
use Rattle.dm_imports.specs.Tables.{of_tables}
use Rattle.dm_imports.proofs.AskLemmas.{module-known}
use Rattle.dm_imports.proofs.ListLemmas.{next-of}
use Rattle.dm_imports.proofs.rules.grounded.known_offers.add_globs.Goals as goal

pub add_glob-requires-clause-glob : goal.add_glob-requires-clause-glob
add_glob-requires-clause-glob c =
    let d = of_tables c.args.maps.now in
    let known = subst (IsGlobKnown d) (sym c.glob-item.is) (All-get_or (IsGlobKnown d) c.args.globs.now c.loop-glob.glob-index c.glob-item.result c.loop-glob-test.true c.requires.globs) in
    record { into = module-known d.world c.glob-item.result.into known.0.0; vis = known.1; variants = c.requires.variants }

pub loop-glob-preserved : goal.loop-glob-preserved
loop-glob-preserved c = record {
  joined = λ k x t.
      let d = of_tables c.args.maps.now in
      let f : Option Joined → GlobImport → Option Joined = λ j g. join d.world k j (known_offer d (slots_of c.args.known.now) k x t g) in
      ap (λ y. fold f y (drop (c.loop-glob.glob-index + 1) c.args.globs.now)) (c.in_ok-add_glob.ensures.joined k x t)
      ∙ ap (fold f (slot_at c.loop-glob.all k x t)) (sym (next-of c.args.globs.now c.loop-glob.glob-index c.glob-item.result c.loop-glob-test.true c.glob-item.is))
      ∙ c.loop-glob.invariant.joined k x t;
  named = c.in_ok-add_glob.ensures.named;
}

pub returns-clause-joined : goal.returns-clause-joined
returns-clause-joined c k x t =
    let d = of_tables c.args.maps.now in
    let f : Option Joined → GlobImport → Option Joined = λ j g. join d.world k j (known_offer d (slots_of c.args.known.now) k x t g) in
    ap (fold f (slot_at c.loop-glob.all k x t)) (sym (drop_all c.loop-glob.glob-index c.args.globs.now c.loop-glob-test.false))
    ∙ c.loop-glob.invariant.joined k x t

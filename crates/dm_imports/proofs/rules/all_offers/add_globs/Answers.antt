use Rattle.std.proofs.Common.{◌∙◌, ◌+◌, Option, ap, drop, subst, sym}
use Rattle.std.proofs.lemmas.List.{drop_all}
use Rattle.std.proofs.lemmas.List.Elements.{All-get_or}
use Rattle.std.specs.Prelude.{fold}
use Rattle.dm_imports.specs.declared.glob_import.GlobImport.{GlobImport}
use Rattle.dm_imports.specs.declared.joined.Joined.{Joined}
use Rattle.dm_imports.specs.Brought.{join}
use Rattle.dm_imports.specs.Rules.{IsGlobKnown, offer_to}
use Rattle.dm_imports.specs.Slots.{slot_at}
use Rattle.dm_imports.specs.Tables.{of_tables}
use Rattle.dm_imports.proofs.AskLemmas.{module-known}
use Rattle.dm_imports.proofs.ListLemmas.{next-of}
use Rattle.dm_imports.proofs.rules.all_offers.add_globs.Goals as goal

pub add_glob-requires-clause-into : goal.add_glob-requires-clause-into
add_glob-requires-clause-into c =
    let d = of_tables c.args.maps.now in
    let known = subst (IsGlobKnown d) (sym c.glob-item.is) (All-get_or (IsGlobKnown d) c.args.globs.now c.loop-glob.glob-index c.glob-item.result c.loop-glob-test.true c.requires.globs) in
    module-known d.world c.glob-item.result.into known.0.0

pub add_glob-requires-clause-vis : goal.add_glob-requires-clause-vis
add_glob-requires-clause-vis c =
    let d = of_tables c.args.maps.now in
    (subst (IsGlobKnown d) (sym c.glob-item.is) (All-get_or (IsGlobKnown d) c.args.globs.now c.loop-glob.glob-index c.glob-item.result c.loop-glob-test.true c.requires.globs)).1

pub loop-glob-preserved : goal.loop-glob-preserved
loop-glob-preserved c = record {
  joined = λ k x t.
      let d = of_tables c.args.maps.now in
      let f : Option Joined → GlobImport → Option Joined = λ j g. join d.world k j (offer_to d k x t g) in
      ap (λ y. fold f y (drop (c.loop-glob.glob-index + 1) c.args.globs.now)) (c.in_ok-add_glob.ensures.joined k x t)
      ∙ ap (fold f (slot_at c.loop-glob.all k x t)) (sym (next-of c.args.globs.now c.loop-glob.glob-index c.glob-item.result c.loop-glob-test.true c.glob-item.is))
      ∙ c.loop-glob.invariant.joined k x t;
  named = c.in_ok-add_glob.ensures.named;
}

pub returns-clause-joined : goal.returns-clause-joined
returns-clause-joined c k x t =
    let d = of_tables c.args.maps.now in
    let f : Option Joined → GlobImport → Option Joined = λ j g. join d.world k j (offer_to d k x t g) in
    ap (fold f (slot_at c.loop-glob.all k x t)) (sym (drop_all c.loop-glob.glob-index c.args.globs.now c.loop-glob-test.false))
    ∙ c.loop-glob.invariant.joined k x t

use Rattle.std.proofs.Common.{◌≡◌, ◌∙◌, ◌+◌, ◌++◌, ◌∷◌, [], None, ap, drop, subst, sym, take}
use Rattle.dm_maps.specs.Pushes.{push_holds}
use Rattle.std.proofs.lemmas.List.{take_more}
use Rattle.crate_tables.proofs.DeclaredLemmas.{shown-more}
use Rattle.crate_tables.specs.CrateTables.{IsNameOf}
use Rattle.crate_tables.specs.Steps.{next-of}
use Rattle.crate_tables.specs.DeclaredWorlds.{AreShown, WithGlobs, with_all_declared, with_declared}
use Rattle.crate_tables.specs.declared.declared_name.DeclaredName.{DeclaredName}
use Rattle.crate_tables.proofs.declared_world.declare_all.Goals as goal

pub declare-requires : goal.declare-requires
declare-requires c =
    let k : IsNameOf c.args.world.now c.declared-item.result =
    subst (IsNameOf c.args.world.now) (sym c.declared-item.is) (c.requires.known c.loop-declared.declared-index c.declared-item.result c.loop-declared-test.true) in
    record { known = c.loop-declared.invariant.stays (push_holds c.declared-item.result.home c.declared-item.result.items None) k.known }

pub loop-declared-preserved : goal.loop-declared-preserved
loop-declared-preserved c =
    let more : take (c.loop-declared.declared-index + 1) c.args.names.now ≡ take c.loop-declared.declared-index c.args.names.now ++ c.declared-item.result ∷ [] =
    take_more c.args.names.now c.loop-declared.declared-index c.declared-item.result c.loop-declared-test.true
    ∙ ap (λ (d : DeclaredName). take c.loop-declared.declared-index c.args.names.now ++ d ∷ []) (sym c.declared-item.is) in
    let n = c.loop-declared.declared-index in
    let ds = c.args.names.now in
    let before : WithGlobs = record { world = c.loop-declared.world; globs = c.loop-declared.globs } in
    let after : WithGlobs = record { world = c.declare.new.world; globs = c.declare.new.globs } in
    let step : after ≡ with_declared before c.declared-item.result =
    λ i. record { world = c.in_ok-declare.ensures.world i; globs = c.in_ok-declare.ensures.globs i } in
    record {
      exact =
          ap (λ (s : WithGlobs). with_all_declared s (drop (n + 1) ds)) step
          ∙ sym (ap (with_all_declared before) (next-of ds n c.declared-item.result c.loop-declared-test.true c.declared-item.is))
          ∙ c.loop-declared.invariant.exact;
      shown =
          subst (AreShown c.declare.new.world c.declare.new.globs) (sym more)
          (shown-more c.loop-declared.world c.declare.new.world c.loop-declared.globs c.declare.new.globs (take c.loop-declared.declared-index c.args.names.now) c.declared-item.result
          c.in_ok-declare.ensures.shown c.in_ok-declare.ensures.elsewhere c.loop-declared.invariant.shown);
      stays = λ hs k. c.in_ok-declare.ensures.stays hs (c.loop-declared.invariant.stays hs k);
    }

use Rattle.std.proofs.Common.{◌≡◌, ◌∙◌, ◌+◌, ap, drop, sym, take}
use Rattle.crate_tables.proofs.GrownLemmas.{grown-further}
use Rattle.crate_tables.specs.Steps.{next-of}
use Rattle.crate_tables.specs.CrateRoots.{with_extern, with_externs_from}
use Rattle.crate_items.specs.declared.files.dependency.Dependency.{Dependency}
use Rattle.std.specs.Prelude.{List}
use Rattle.crate_tables.proofs.crate_roots.add_externs.Goals as goal

pub loop-place-preserved : goal.loop-place-preserved
loop-place-preserved c =
    let k = c.args.krate in
    let attrs = c.args.attributes.now in
    let all = c.args.dependencies.now in
    let n = c.loop-place.place in
    let d = c.index-dependencies-place.result in
    let front : c.before-in-loop-place.result.now ≡ take n all = c.before-in-loop-place.ensures in
    let pushed = c.in_ok-push_extern.ensures.world ∙ ap (λ (before : List Dependency). with_extern c.loop-place.builder k attrs before d) front in
    record {
      world =
          ap (λ w. with_externs_from w k attrs all (n + 1) (drop (n + 1) all)) pushed
          ∙ sym (ap (with_externs_from c.loop-place.builder k attrs all n) (next-of all n d c.loop-place-test.true c.index-dependencies-place.is))
          ∙ c.loop-place.invariant.world;
      known = c.in_ok-push_extern.ensures.kept;
      grown = grown-further _ _ _ c.loop-place.invariant.grown c.in_ok-push_extern.ensures.grown;
    }

pub returns-in_err-push_extern-clause-grown : goal.returns-in_err-push_extern-clause-grown
returns-in_err-push_extern-clause-grown c = grown-further _ _ _ c.loop-place.invariant.grown c.in_err-push_extern.ensures.grown

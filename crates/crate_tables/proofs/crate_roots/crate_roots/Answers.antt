use Rattle.crate_tables.proofs.ShortLemmas.{passed, roots-short}
use Rattle.std.proofs.Common.{◌∙◌, ◌+◌, ap, drop, length, sym}
use Rattle.crate_tables.proofs.RootLemmas.{roots-more}
use Rattle.crate_tables.specs.Steps.{next-in}
use Rattle.crate_tables.proofs.StepLemmas.{one-more}
use Rattle.crate_tables.specs.CrateRoots.{with_roots}
use Rattle.dm_maps.specs.World.{World}
use Rattle.crate_tables.proofs.crate_roots.crate_roots.Goals as goal

pub loop-krate-preserved : goal.loop-krate-preserved
loop-krate-preserved c =
    let w = c.loop-krate.builder in
    let v = c.add_root.new.builder in
    let n = c.loop-krate.krate-index in
    let made = c.in_ok-add_root.ensures.world in
    let added = c.in_ok-add_root.ensures.added in
    record {
      world =
          ap (λ u. with_roots u (drop (n + 1) c.args.graph.now)) made
          ∙ sym (ap (with_roots w) (next-in c.args.graph.now c.crates-krate-items.result.now n c.krate-item.result c.crates-krate-items.ensures.all c.loop-krate-test.true c.krate-item.is))
          ∙ c.loop-krate.invariant.world;
      crates = ap (λ (u : World). length u.crate_maps) made ∙ one-more w.crate_maps _ n c.loop-krate.invariant.crates;
      places = ap (λ (u : World). length u.places) made ∙ one-more w.places _ n c.loop-krate.invariant.places;
      roots = roots-more w v _ _ n made added c.loop-krate.invariant.crates c.loop-krate.invariant.places c.loop-krate.invariant.roots;
      empty = λ m. added.root.grown.scopes m ∙ c.loop-krate.invariant.empty m;
    }

pub returns-in_err-add_root-clause-fault : goal.returns-in_err-add_root-clause-fault
returns-in_err-add_root-clause-fault c =
    passed c.from_residual.result c.in_err-add_root.field-0.0 _ c.from_residual.ensures.1
    (let n = c.loop-krate.krate-index in
    roots-short c.loop-krate.builder _ _ _ c.krate-item.result _
    (next-in c.args.graph.now c.crates-krate-items.result.now n c.krate-item.result c.crates-krate-items.ensures.all c.loop-krate-test.true c.krate-item.is)
    c.loop-krate.invariant.world c.in_err-add_root.ensures.fault)

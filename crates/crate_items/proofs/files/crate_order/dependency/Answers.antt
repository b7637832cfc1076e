use Rattle.std.proofs.Common.{◌≡◌, ◌+◌, ◌-◌, arith, length, ap, ◌∙◌, slice_index_or}
use Rattle.std.proofs.lemmas.List.{length-map}
use Rattle.crate_items.specs.CrateGraphs.{row, rows}
use Rattle.crate_items.specs.declared.files.dependency.Dependency.{Dependency}
use Rattle.crate_items.proofs.StepLemmas.{dependency-at, row-is}
use Rattle.crate_items.proofs.files.crate_order.dependency.Goals as goal

pub returns : goal.returns
returns c =
    let found = c.index-crates-id.result in
    let is = row-is c.args.crates.now c.args.id.0 found c.requires.known c.index-crates-id.is in
    let len : length (row (rows c.args.crates.now) c.args.id.0) ≡ length found.dependencies = ap length is ∙ length-map found.dependencies (λ (d : Dependency). d.crate_id.0) in
    let same : length found.dependencies - (c.args.left - 1) ≡ length (row (rows c.args.crates.now) c.args.id.0) + 1 - c.args.left = omega (arith, len) in
    ap (λ ds. (slice_index_or ds (length ds - (c.args.left - 1)) c.index-dependencies-dependencies.result).crate_id.0) c.dependencies-dependencies.ensures
    ∙ dependency-at c.args.crates.now c.args.id.0 _ _ found c.index-dependencies-dependencies.result c.requires.known c.index-crates-id.is same (omega (arith, c.requires.some, c.requires.within))

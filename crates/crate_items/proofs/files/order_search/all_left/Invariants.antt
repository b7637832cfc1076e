use Rattle.std.proofs.Common.{◌≡◌, ◌+◌, length, map, take}
use Rattle.crate_items.specs.CrateGraphs.{rows}
use Rattle.crate_items.proofs.files.order_search.all_left.Given as goal

abbrev pub invariant-loop-data : goal.invariant-loop-data
invariant-loop-data l = l.left.items ≡ map (λ r. length r + 1) (rows (take l.data-index l.crates))

use Rattle.std.proofs.Common.{◌≡◌, ℕ, sum}
use Rattle.crate_items.specs.CrateGraphs.{rows}
use Rattle.crate_items.specs.OrderSearch.{HasBegun, IsSearch, left_of}
use Rattle.crate_items.proofs.files.crate_order.visit.Given as goal

abbrev pub invariant-path : goal.invariant-path
invariant-path l = record {
  kept : IsSearch (rows l.crates) l.search;
  done : (c : ℕ) → left_of l.fn.search c ≡ 0 → left_of l.search c ≡ 0;
  begun : HasBegun l.search l.fn.root.0;
}

abbrev pub decreases-path : goal.decreases-path
decreases-path l = sum l.search.left

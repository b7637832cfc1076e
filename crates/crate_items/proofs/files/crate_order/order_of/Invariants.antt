use Rattle.std.proofs.Common.{◌≡◌, ◌<◌, ℕ, length}
use Rattle.crate_items.specs.CrateGraphs.{rows}
use Rattle.crate_items.specs.OrderSearch.{IsSearch, left_of}
use Rattle.crate_items.proofs.files.crate_order.order_of.Given as goal

abbrev pub invariant-loop-number : goal.invariant-loop-number
invariant-loop-number l = record {
  kept : IsSearch (rows l.crates) l.search;
  idle : length l.search.path ≡ 0;
  before : (c : ℕ) → c < l.number → left_of l.search c ≡ 0;
}

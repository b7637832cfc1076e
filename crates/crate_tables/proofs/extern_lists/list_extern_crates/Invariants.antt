use Rattle.std.proofs.Common.{◌≡◌, ◌-◌, drop, length}
use Rattle.crate_tables.specs.ExternLists.{with_extern_rows}
use Rattle.crate_tables.specs.TextualMacros.{AllStayShown, StaysKnown}
use Rattle.crate_tables.proofs.extern_lists.list_extern_crates.Given as goal

abbrev pub invariant-loop-number : goal.invariant-loop-number
invariant-loop-number l = record {
  world : with_extern_rows l.builder l.number (drop l.number l.rows) ≡ with_extern_rows l.fn.builder l.from (drop l.from l.rows);
  stays : StaysKnown l.fn.builder l.builder;
  shown : AllStayShown l.fn.builder l.builder;
}

abbrev pub decreases-loop-number : goal.decreases-loop-number
decreases-loop-number l = length l.rows - l.number

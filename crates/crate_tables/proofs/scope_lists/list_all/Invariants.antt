use Rattle.std.proofs.Common.{◌≡◌, drop}
use Rattle.crate_tables.specs.CrateTables.{IsTableOf}
use Rattle.crate_tables.specs.ScopeLists.{with_scope_lists}
use Rattle.crate_tables.specs.TextualMacros.{AllStayShown, StaysKnown}
use Rattle.crate_tables.proofs.scope_lists.list_all.Given as goal

abbrev pub invariant-loop-outline : goal.invariant-loop-outline
invariant-loop-outline l = record {
  world : with_scope_lists l.index l.table l.builder (drop l.outline-index l.outlines) ≡ with_scope_lists l.index l.table l.fn.builder l.outlines;
  stays : StaysKnown l.fn.builder l.builder;
  shown : AllStayShown l.fn.builder l.builder;
  kept : IsTableOf l.builder l.krate l.table;
}

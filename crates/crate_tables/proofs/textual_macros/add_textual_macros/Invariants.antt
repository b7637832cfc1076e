use Rattle.std.proofs.Common.{◌≡◌, drop}
use Rattle.crate_tables.specs.CrateTables.{IsTableOf}
use Rattle.crate_tables.specs.TextualMacros.{AllStayShown, StaysKnown, with_scopes, with_scopes_from}
use Rattle.crate_tables.proofs.textual_macros.add_textual_macros.Given as goal

abbrev pub invariant-loop-home : goal.invariant-loop-home
invariant-loop-home l = record {
  world : with_scopes_from l.items l.macros l.table.ids l.builder l.home (drop l.home l.scopes) ≡ with_scopes l.items l.macros l.table.ids l.fn.builder l.scopes;
  stays : StaysKnown l.fn.builder l.builder;
  shown : AllStayShown l.fn.builder l.builder;
  kept : IsTableOf l.builder l.krate l.table;
}

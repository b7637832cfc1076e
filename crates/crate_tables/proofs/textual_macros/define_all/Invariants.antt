use Rattle.std.proofs.Common.{◌≡◌, drop}
use Rattle.crate_tables.specs.TextualMacros.{AllStayShown, StaysKnown, with_textual}
use Rattle.crate_tables.proofs.textual_macros.define_all.Given as goal

abbrev pub invariant-loop-one : goal.invariant-loop-one
invariant-loop-one l = record {
  world : with_textual l.items l.macros l.builder l.m (drop l.one-index l.scope) ≡ with_textual l.items l.macros l.fn.builder l.m l.scope;
  stays : StaysKnown l.fn.builder l.builder;
  shown : AllStayShown l.fn.builder l.builder;
}

use Rattle.std.proofs.Common.{◌≡◌, ◌≤◌, drop}
use Rattle.item_tree.specs.Strings.{number_behind}
use Rattle.item_tree.proofs.lexer.strings.number_of.Given as goal

abbrev pub invariant-loop-byte : goal.invariant-loop-byte
invariant-loop-byte l = record {
  low : l.number ≤ 17825792;
  counted : number_behind l.number (drop l.byte-index l.digits) ≡ number_behind 0 l.digits;
}

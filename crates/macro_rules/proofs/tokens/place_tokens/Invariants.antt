use Rattle.std.proofs.Common.{◌≡◌, ◌+◌, ◌++◌, length, drop}
use Rattle.std.specs.Prelude.{sum_by}
use Rattle.item_tree.specs.declared.lexer.token.Token as lexed
use Rattle.macro_rules.specs.TokensRead.{tokens_of}
use Rattle.macro_rules.proofs.tokens.place_tokens.Given as goal

abbrev pub invariant-loop-own : goal.invariant-loop-own
invariant-loop-own l = record {
  within : l.at + sum_by (λ (t : lexed.Token). t.len) (drop l.own-index l.cut) ≡ length l.text;
  read : l.tokens.items ++ tokens_of l.edition l.words (l.base + l.at) l.skipped (drop l.own-index l.cut) (drop l.at l.text) ≡ tokens_of l.edition l.words l.base 0 l.cut l.text;
}

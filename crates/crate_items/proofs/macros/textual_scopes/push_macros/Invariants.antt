use Rattle.std.proofs.Common.{◌≡◌, ◌++◌, drop}
use Rattle.crate_items.proofs.macros.textual_scopes.push_macros.Given as goal

abbrev pub invariant-loop-one : goal.invariant-loop-one
invariant-loop-one l = l.macros.items ++ drop l.one-index l.more ≡ l.fn.macros.items ++ l.more

use Rattle.std.proofs.Common.{◌≡◌, ◌++◌}
use Rattle.crate_items.proofs.macros.declared_macro.push_all.Given as goal

abbrev pub invariant-loop-name : goal.invariant-loop-name
invariant-loop-name l = l.names.items ≡ l.fn.names.items ++ l.yielded

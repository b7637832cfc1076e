use Rattle.std.proofs.Common.{◌≡◌, ◌++◌}
use Rattle.crate_tables.proofs.table_parts.push_leaves.Given as goal

abbrev pub invariant-loop-leaf : goal.invariant-loop-leaf
invariant-loop-leaf l = l.leaves.items ≡ l.fn.leaves.items ++ l.yielded

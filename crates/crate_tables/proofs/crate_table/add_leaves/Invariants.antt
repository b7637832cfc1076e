use Rattle.std.proofs.Common.{◌≡◌, ◌++◌}
use Rattle.crate_tables.proofs.crate_table.add_leaves.Given as goal

abbrev pub invariant-loop-leaf : goal.invariant-loop-leaf
invariant-loop-leaf l = l.leaves.items ≡ l.fn.leaves.items ++ l.yielded

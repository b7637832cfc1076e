use Rattle.std.proofs.Common.{◌≡◌}
use Rattle.std.specs.Slice.Iter.{iter_rest}
use Rattle.dm_scope.specs.MacroCalls.{item_calls}
use Rattle.dm_scope.proofs.macro_calls.next_in_items.Given as goal

-- the calls that are left are those that the call began with
abbrev pub invariant-loop-derives : goal.invariant-loop-derives
invariant-loop-derives l = item_calls (iter_rest l.items) ≡ item_calls (iter_rest l.fn.items)

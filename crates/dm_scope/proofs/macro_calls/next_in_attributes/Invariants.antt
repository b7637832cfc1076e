use Rattle.std.proofs.Common.{◌≡◌}
use Rattle.std.specs.Slice.Iter.{iter_rest}
use Rattle.dm_scope.specs.MacroCalls.{attribute_calls}
use Rattle.dm_scope.proofs.macro_calls.next_in_attributes.Given as goal

-- the calls that are left are those that the call began with
abbrev pub invariant-loop-attribute : goal.invariant-loop-attribute
invariant-loop-attribute l = attribute_calls (iter_rest l.attributes) ≡ attribute_calls (iter_rest l.fn.attributes)

use Rattle.std.proofs.Common.{◌≡◌}
use Rattle.std.specs.List.{filter_map}
use Rattle.std.specs.Slice.Iter.{iter_rest}
use Rattle.dm_scope.proofs.picked.next_shown.Given as goal

-- what the elements show that are left is what those show that the call began with
abbrev pub invariant-loop-x : goal.invariant-loop-x
invariant-loop-x g l = filter_map g.P.Pick.shown (iter_rest l.rest) ≡ filter_map g.P.Pick.shown (iter_rest l.fn.rest)

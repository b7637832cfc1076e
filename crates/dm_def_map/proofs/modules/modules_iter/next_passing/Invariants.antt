use Rattle.std.proofs.Common.{◌≡◌}
use Rattle.dm_def_map.specs.Queries.{modules_with}
use Rattle.dm_def_map.proofs.modules.modules_iter.next_passing.Given as goal

-- the modules left that pass are those that the call began with
abbrev pub invariant-loop-m : goal.invariant-loop-m
invariant-loop-m g l = modules_with (g.P.Origins.passes l.origins) l.rest ≡ modules_with (g.P.Origins.passes l.origins) l.fn.rest

use Rattle.std.proofs.Common.{◌≡◌, ◌+◌, length}
use Rattle.dm_retry.specs.Known.{double_from, first_double}
use Rattle.dm_retry.proofs.pending.first_double.Given as goal

abbrev pub invariant-imports : goal.invariant-imports
invariant-imports l = record {
  same : first_double l.pendings ≡ double_from l.place l.rest;
  fits : l.place + length l.rest ≡ length l.pendings;
}

abbrev pub decreases-imports : goal.decreases-imports
decreases-imports l = length l.rest

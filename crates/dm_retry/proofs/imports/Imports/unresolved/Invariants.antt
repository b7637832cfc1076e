use Rattle.std.proofs.Common.{◌≡◌, length, take}
use Rattle.dm_retry.specs.Rounds.{unresolved_from}
use Rattle.dm_retry.proofs.imports.Imports.unresolved.Given as goal

abbrev pub invariant-loop-i : goal.invariant-loop-i
invariant-loop-i l = record {
  places : l.places.items ≡ unresolved_from l.self.world 0 (take l.i l.self.pending);
  end : l.i-end ≡ length l.self.pending;
}

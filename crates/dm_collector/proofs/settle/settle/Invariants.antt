use Rattle.std.proofs.Common.{◌≡◌}
use Rattle.dm_collector.specs.Steps.{Given, IsReached, StillShow, maps_with}
use Rattle.dm_collector.proofs.settle.settle.Given as goal

-- what was written are steps of the imports, globs and crates
abbrev pub invariant-loop : goal.invariant-loop
invariant-loop l = record {
  reached : (x : Given) → x.imports ≡ l.given.imports.now → x.globs ≡ l.given.globs.now → x.uses ≡ l.uses
      → IsReached (maps_with l.given l.ambiguous) x l.counter l.fn.world l.world;
  shown : StillShow l.fn.world l.world;
}

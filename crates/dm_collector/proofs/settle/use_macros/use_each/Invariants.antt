use Rattle.std.proofs.Common.{◌≡◌, None, false}
use Rattle.std.specs.List.{All, Contains}
use Rattle.dm_base.specs.Names.{Name}
use Rattle.dm_collector.specs.MacroPreludes.{missing_macro}
use Rattle.dm_collector.specs.Steps.{Given, IsReached, MapsOf, StillShow, count}
use Rattle.dm_collector.proofs.settle.use_macros.use_each.Given as goal

-- what was written are steps of the crate, of which one wrote where any did; while none wrote, all is as it was, and under no name
-- so far there was a macro to get
abbrev pub invariant-loop-name : goal.invariant-loop-name
invariant-loop-name l = record {
  same : l.written ≡ false → l.world ≡ l.fn.world;
  idle : l.written ≡ false → All (λ (n : Name). missing_macro l.fn.world l.uses n ≡ None) l.yielded;
  reached : (d : MapsOf) (x : Given) → Contains x.uses l.uses → IsReached d x (count l.written) l.fn.world l.world;
  shown : StillShow l.fn.world l.world;
}

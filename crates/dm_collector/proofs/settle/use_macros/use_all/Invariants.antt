use Rattle.std.proofs.Common.{◌≡◌, false, take}
use Rattle.std.specs.List.{All}
use Rattle.dm_collector.specs.MacroPreludes.{HasMacros}
use Rattle.dm_collector.specs.Steps.{Given, IsReached, MapsOf, StillShow, count}
use Rattle.dm_collector.proofs.settle.use_macros.use_all.Given as goal

-- what was written are steps of the crates, of which one wrote where any did; while none wrote, all is as it was, and each crate so
-- far had nothing to get
abbrev pub invariant-loop-used : goal.invariant-loop-used
invariant-loop-used l = record {
  same : l.written ≡ false → l.world ≡ l.fn.world;
  used : l.written ≡ false → All (HasMacros l.fn.world) (take l.used-index l.uses);
  reached : (d : MapsOf) (x : Given) → x.uses ≡ l.uses → IsReached d x (count l.written) l.fn.world l.world;
  shown : StillShow l.fn.world l.world;
}

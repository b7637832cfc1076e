use Rattle.std.proofs.Common.{◌≡◌, false, take}
use Rattle.std.specs.List.{All}
use Rattle.dm_collector.specs.Steps.{Given, IsReached, StillShow, count, maps_with}
use Rattle.dm_collector.specs.UnnamedTraits.{HasBrought}
use Rattle.dm_collector.proofs.settle.bring.bring_all.Given as goal

-- what was written are steps of the globs, of which one wrote where any did; while none wrote, all is as it was, and each glob so
-- far had nothing to bring
abbrev pub invariant-loop-glob : goal.invariant-loop-glob
invariant-loop-glob l = record {
  same : l.written ≡ false → l.world ≡ l.fn.world;
  none : l.written ≡ false → All (HasBrought (maps_with l.given l.ambiguous l.fn.world)) (take l.glob-index l.given.globs.now);
  reached : (x : Given) → x.globs ≡ l.given.globs.now → IsReached (maps_with l.given l.ambiguous) x (count l.written) l.fn.world l.world;
  shown : StillShow l.fn.world l.world;
}

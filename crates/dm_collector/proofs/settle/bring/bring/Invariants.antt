use Rattle.std.proofs.Common.{◌≡◌, ◌<◌, ℕ, None, false}
use Rattle.std.specs.List.{Contains}
use Rattle.dm_collector.specs.Steps.{Given, IsReached, StillShow, count, maps_with}
use Rattle.dm_collector.specs.UnnamedTraits.{missing_glob}
use Rattle.dm_collector.proofs.settle.bring.bring.Given as goal

-- what was written are steps of the glob, of which one wrote where any did; while none wrote, all is as it was, and no trait so
-- far was missing
abbrev pub invariant-loop-i : goal.invariant-loop-i
invariant-loop-i l = record {
  same : l.written ≡ false → l.world ≡ l.fn.world;
  none : l.written ≡ false → (k : ℕ) → k < l.i → missing_glob (maps_with l.given l.ambiguous l.fn.world) l.glob k ≡ None;
  reached : (x : Given) → Contains x.globs l.glob → IsReached (maps_with l.given l.ambiguous) x (count l.written) l.fn.world l.world;
  shown : StillShow l.fn.world l.world;
}

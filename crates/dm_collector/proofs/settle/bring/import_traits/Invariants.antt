use Rattle.std.proofs.Common.{◌≡◌, false, take}
use Rattle.std.specs.List.{All}
use Rattle.dm_collector.specs.Steps.{Given, IsReached, StillShow, count, maps_with}
use Rattle.dm_collector.specs.UnnamedTraits.{HasImported}
use Rattle.dm_collector.proofs.settle.bring.import_traits.Given as goal

-- what was written are steps of the imports, of which one wrote where any did; while none wrote, all is as it was, and no import so
-- far had anything to bring
abbrev pub invariant-loop-import : goal.invariant-loop-import
invariant-loop-import l = record {
  same : l.written ≡ false → l.world ≡ l.fn.world;
  none : l.written ≡ false → All (HasImported (maps_with l.given l.ambiguous l.fn.world)) (take l.import-index l.given.imports.now);
  reached : (x : Given) → x.imports ≡ l.given.imports.now → IsReached (maps_with l.given l.ambiguous) x (count l.written) l.fn.world l.world;
  shown : StillShow l.fn.world l.world;
}

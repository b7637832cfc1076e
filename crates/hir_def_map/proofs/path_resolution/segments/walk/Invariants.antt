use Rattle.std.proofs.Common.{◌≡◌, ◌+◌, ◌∷◌, suc, map, length}
use Rattle.std.specs.Option.{option_copied}
use Rattle.dm_base.specs.Tree.{IsKnown, crate_of}
use Rattle.dm_maps.specs.Known.{KnowsAll}
use Rattle.dm_maps.specs.Holding.{res_holds}
use Rattle.dm_def_map.specs.Maps.{LocalMap}
use Rattle.dm_maps.specs.Readings.{read}
use Rattle.dm_maps.specs.Trees.{tree_of}
use Rattle.hir_def_map.specs.Walk.{in_types, standing, starting, walk}
use Rattle.hir_def_map.proofs.path_resolution.segments.walk.Given as goal

abbrev pub invariant-segments : goal.invariant-segments
invariant-segments l = record {
  origin : IsKnown (tree_of l.world) l.origin;
  krate : l.krate ≡ crate_of (tree_of l.world) l.origin;
  known : KnowsAll l.world (res_holds (in_types (option_copied l.types)));
  counted : l.passed + suc (length l.rest) ≡ l.fn.position + length l.fn.segments;
  same : (L : LocalMap) → walk (tree_of l.world) (standing l.differing l.origin (option_copied l.types)) l.passed (map (read l.world L) (l.segment ∷ l.rest)) ≡ walk (tree_of l.world) (starting l.fn.from l.fn.here) l.fn.position (map (read l.world L) l.fn.segments);
}

abbrev pub decreases-segments : goal.decreases-segments
decreases-segments l = length l.rest

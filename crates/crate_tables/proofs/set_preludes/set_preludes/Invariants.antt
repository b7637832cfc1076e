use Rattle.std.proofs.Common.{◌≡◌, drop, length}
use Rattle.crate_tables.specs.CrateFillings.{HasMaps, with_preludes_from}
use Rattle.dm_maps.specs.Added.{IsGrown}
use Rattle.crate_tables.proofs.set_preludes.set_preludes.Given as goal

abbrev pub invariant-loop-number : goal.invariant-loop-number
invariant-loop-number l = record {
  world : with_preludes_from l.files l.lists l.tables l.number (drop l.number l.graph) l.builder ≡ with_preludes_from l.files l.lists l.tables 0 l.graph l.fn.builder;
  maps : HasMaps l.builder (length l.graph);
  grown : IsGrown l.fn.builder l.builder;
}

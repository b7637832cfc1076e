use Rattle.std.proofs.Common.{◌≡◌, drop, length}
use Rattle.crate_tables.specs.CrateRoots.{HasRoots, with_roots}
use Rattle.dm_base.specs.declared.ids.ModuleId.{ModuleId}
use Rattle.dm_maps.specs.Build.{no_world}
use Rattle.dm_maps.specs.World.{scope_of}
use Rattle.dm_scope.specs.Scope.{no_scope}
use Rattle.crate_tables.proofs.crate_roots.crate_roots.Given as goal

abbrev pub invariant-loop-krate : goal.invariant-loop-krate
invariant-loop-krate l = record {
  world : with_roots l.builder (drop l.krate-index l.graph) ≡ with_roots no_world l.graph;
  crates : length l.builder.crate_maps ≡ l.krate-index;
  places : length l.builder.places ≡ l.krate-index;
  roots : HasRoots l.builder l.krate-index;
  empty : (m : ModuleId) → scope_of l.builder m ≡ no_scope;
}

-- Diagnostics, added to the def map of a crate.
use Rattle.std.specs.Prelude.{◌≡◌, ◌&&◌, ◌++◌, ℕ, Bool, List, [], ◌∷◌, None, map, not, if◌then◌else◌}
use Rattle.std.specs.List.{list_all}
use Rattle.def_diagnostics.specs.ItemModules.{MappedCrate}
use Rattle.def_diagnostics.specs.ToldInMaps.{Told, told_by, told_from}
use Rattle.def_diagnostics.specs.declared.diagnostic.Diagnostic.{Diagnostic}
use Rattle.dm_maps.specs.TablesHold.{diagnostic_holds}
use Rattle.dm_base.specs.declared.ids.Crate.{Crate}
use Rattle.dm_base.specs.declared.ids.MapId.{MapId}
use Rattle.dm_maps.specs.BuildMaps.{lacks_map, with_diagnostic}
use Rattle.dm_maps.specs.Known.{knows}
use Rattle.dm_maps.specs.World.{World}
use Rattle.dm_scope.specs.declared.diagnostics.DefDiagnostic.{DefDiagnostic}

-- the map is the world's, and so is all that the diagnostic names
abbrev pub may_have : World → MapId → DefDiagnostic → Bool
may_have w id d = not (lacks_map w id) && list_all (knows w) (diagnostic_holds d)

-- with the diagnostic, the last of that map; what names something else stays out
abbrev pub with_one : World → MapId → DefDiagnostic → World
with_one w id d = if may_have w id d then with_diagnostic w id d else w

-- with some diagnostics, in order
abbrev pub with_all : World → MapId → List DefDiagnostic → World
with_all w id [] = w
with_all w id (d ∷ ds) = with_all (with_one w id d) id ds

-- the first of them are
pub record IsPartly (old : World) (id : MapId) (ds : List DefDiagnostic) (new : World) : Type 0 where
  pub first : List DefDiagnostic
  pub rest : List DefDiagnostic
  pub split : ds ≡ first ++ rest
  pub world : new ≡ with_all old id first

abbrev pub map_of : Crate → MapId
map_of k = record { krate = k; block = None }

-- the map of a crate has what is told of it, behind what it had, and nothing else changes
pub record AreAdded (c : MappedCrate) (row : ℕ) (xs : List Diagnostic) (old new : World) : Type 0 where
  pub diagnostics : List DefDiagnostic
  pub told : map told_by diagnostics ≡ told_from c row xs
  pub world : new ≡ with_all old (map_of c.krate) diagnostics

-- it has the first of them
pub record ArePartlyAdded (c : MappedCrate) (row : ℕ) (xs : List Diagnostic) (old new : World) : Type 0 where
  pub diagnostics : List DefDiagnostic
  pub rest : List Told
  pub told : told_from c row xs ≡ map told_by diagnostics ++ rest
  pub world : new ≡ with_all old (map_of c.krate) diagnostics

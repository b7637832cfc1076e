-- Invariants of the family of a crate's maps: its own and those of its blocks.
use Rattle.std.specs.Prelude.{◌≡◌, List, None, Some, map, slice_get}
use Rattle.std.specs.List.{AllByRecursion}
use Rattle.dm_base.specs.declared.ids.ModuleId.{ModuleId}
use Rattle.dm_base.specs.declared.edition.Edition.{Edition}
use Rattle.dm_def_map.specs.CrateData.{CrateData}
use Rattle.dm_def_map.specs.Maps.{Map, Module}
use Rattle.dm_maps.specs.declared.place.Place.{Place}
use Rattle.dm_maps.specs.Trees.{parent_in}
use Rattle.dm_maps.specs.World.{World}

-- a module is the parent of each child that it lists
abbrev pub IsParent : List Place → ModuleId × Module → Type 0
IsParent ps e = AllByRecursion (λ x. parent_in ps x.1 ≡ Some e.0) e.1.children

abbrev pub AreParents : List Place → Map → Type 0
AreParents ps m = AllByRecursion (IsParent ps) m.modules

-- what a crate's map and those of its blocks have in common
abbrev pub common : Map → Edition × CrateData
common m = (m.edition, m.shared)

-- Of the maps of crates, and of blocks: their modules are the parents of the children that they list, no module
-- contains a crate, and a block's map shares what its crate's map has.
pub record HaveFamilies (ps : List Place) (cs bs : List Map) : Type 0 where
  pub of_crates : AllByRecursion (AreParents ps) cs
  pub of_blocks : AllByRecursion (AreParents ps) bs
  pub outermost : AllByRecursion (λ m. m.parent ≡ None) cs
  pub shared : AllByRecursion (λ m. slice_get (map common cs) m.id.krate.0 ≡ Some (common m)) bs

unfoldable pub AreFamilies : List Place → List Map → List Map → Type 0
AreFamilies ps cs bs = HaveFamilies ps cs bs

abbrev pub IsFamily : World → Type 0
IsFamily w = AreFamilies w.places w.crate_maps w.block_maps

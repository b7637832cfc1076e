-- The places where a path's first segment is looked up, one after another.
use Rattle.std.proofs.Common.{◌≡◌, ◌++◌, List, [], ◌∷◌, map}
use Rattle.dm_base.specs.declared.ids.ModuleId.{ModuleId}
use Rattle.dm_base.specs.Tree.{Tree, home, homeward}
use Rattle.dm_maps.specs.Readings.{Setting}
use Rattle.hir_def_map.specs.Paths.{prelude_place}
use Rattle.hir_def_map.specs.declared.path_resolution.place.Place.{Place}
use Rattle.hir_def_map.specs.declared.path_resolution.place.Place.TheVariants.{In}

-- the places that a path resolution from m asks, by the tree of the setting
abbrev pub places_in : Tree → Setting → ModuleId → List Place
places_in t w m = map In (homeward t m) ++ prelude_place w (home t m)

-- a block's root is asked, and then what is outside
pub places-root : (t : Tree) (w : Setting) (m o : ModuleId) → homeward t m ≡ m ∷ homeward t o → home t m ≡ home t o → places_in t w m ≡ In m ∷ places_in t w o
places-root t w m o way inside i = map In (way i) ++ prelude_place w (inside i)

-- home is asked last, and then the preludes
pub places-home : (t : Tree) (w : Setting) (m : ModuleId) → homeward t m ≡ m ∷ [] → home t m ≡ m → places_in t w m ≡ In m ∷ prelude_place w m
places-home t w m way inside i = map In (way i) ++ prelude_place w (inside i)

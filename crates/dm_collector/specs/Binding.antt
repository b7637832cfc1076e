-- Stages, one after another, in each of which preludes get macros, and imports and globs bind names. Of which crate a
-- stage is, nothing says.
use Rattle.std.specs.Prelude.{◌≡◌, List, [], ◌∷◌}
use Rattle.dm_base.specs.declared.ids.Crate.{Crate}
use Rattle.dm_collector.specs.Steps.{Given, IsReached, MapsOf, StillShow}
use Rattle.dm_imports.specs.Bound.{AreBound, Maps}
use Rattle.dm_maps.specs.World.{World}

-- one stage: first preludes get macros, then names are bound by imports and globs
pub record IsCrateBound (x : Given) (s t : Maps) : Type 0 where
  pub used : World
  pub macros : (d : MapsOf) → IsReached d x 0 s.world used
  pub shown : StillShow s.world used
  pub names : AreBound x.imports x.globs (record { world = used; flags = s.flags }) t

-- some, one after another
abbrev pub AreCratesBound : Given → List Crate → Maps → Maps → Type 0
AreCratesBound x [] s t = t ≡ s
AreCratesBound x (k ∷ ks) s t = (mid : Maps) × IsCrateBound x s mid × AreCratesBound x ks mid t

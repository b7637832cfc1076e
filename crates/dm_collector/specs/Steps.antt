-- What is written beside names: unnamed traits and `macro_use` preludes, step by step.
use Rattle.std.specs.Prelude.{◌≡◌, ◌+◌, ◌≤◌, ℕ, Bool, true, false, is_some, List, [], ◌∷◌, Option, Contains}
use Rattle.std.specs.List.{AllByRecursion}
use Rattle.std.specs.Option.{option_map_or}
use Rattle.crate_tables.specs.StandardPreludes.{own_map}
use Rattle.dm_base.specs.declared.ids.EnumId.{EnumId}
use Rattle.dm_base.specs.declared.ids.EnumVariantId.{EnumVariantId}
use Rattle.dm_base.specs.declared.ids.ModuleId.{ModuleId}
use Rattle.dm_base.specs.declared.visibility.Visibility.{Visibility}
use Rattle.dm_base.specs.Names.{Name}
use Rattle.dm_collector.specs.MacroPreludes.{missing_macro}
use Rattle.dm_collector.specs.MacroUses.{Uses}
use Rattle.dm_collector.specs.UnnamedTraits.{missing_glob, missing_import, with_unnamed}
use Rattle.dm_imports.specs.declared.glob_import.GlobImport.{GlobImport}
use Rattle.dm_imports.specs.declared.importing.Importing.{Importing}
use Rattle.dm_imports.specs.declared.named_import.NamedImport.{NamedImport}
use Rattle.dm_imports.specs.Paths.{DefMaps}
use Rattle.dm_imports.specs.Slots.{Slots}
use Rattle.dm_imports.specs.Tables.{MapTables, of_tables}
use Rattle.dm_maps.specs.BuildMaps.{with_macro_use}
use Rattle.dm_maps.specs.PushRes.{StaysShown}
use Rattle.dm_maps.specs.World.{World}
use Rattle.dm_scope.specs.Flags.{Globs}

-- What crates import: their imports, but globs; their globs; who sees each enum, and the constructors of variants that not all
-- see who see their enums; which modules have no preludes; and the roots that each crate has macros from.
pub record Given : Type 0 where
  pub imports : List NamedImport
  pub globs : List GlobImport
  pub enums : EnumId → Option Visibility
  pub constructors : EnumVariantId → Option Visibility
  pub is_bare : ModuleId → Bool
  pub uses : List Uses

-- the def maps of a world, with what is imported there
abbrev pub MapsOf : Type 0
MapsOf = World → DefMaps

abbrev pub tables_with : Importing → Slots Bool → World → MapTables
tables_with x t w = record {
  world = w;
  imports = x.imports.now;
  globs = x.globs.now;
  declarations = x.declarations.now;
  ambiguous = record { table = t; is_all_but = false };
}

abbrev pub maps_with : Importing → Slots Bool → MapsOf
maps_with x t w = of_tables (tables_with x t w)

-- A step: an import as `_` brings its trait; a glob brings the unnamed trait at a place of its source; or the `macro_use`
-- prelude of a crate gets the macro of a name.
pub data Step : Type 0 where
  Import : NamedImport → Step
  Bring : GlobImport → ℕ → Step
  Use : Uses → Name → Step

-- the macro that a prelude has yet to get under a name, if any
abbrev pub with_macro_used : World → Uses → Name → World
with_macro_used w u n = option_map_or (λ e. with_macro_use w (own_map u.krate) n e.0 e.1) (missing_macro w u n) w

-- The world after a step. What is yet to be written is looked up when the step is made.
abbrev pub after_step : MapsOf → Step → World → World
after_step d (Import i) w = option_map_or (with_unnamed w i.home) (missing_import (d w) i) w
after_step d (Bring g n) w = option_map_or (with_unnamed w g.into) (missing_glob (d w) g n) w
after_step d (Use u n) w = with_macro_used w u n

-- the world after some, one after another
abbrev pub made : MapsOf → List Step → World → World
made d [] w = w
made d (x ∷ xs) w = made d xs (after_step d x w)

-- whether a step writes anything
abbrev pub writes : MapsOf → Step → World → Bool
writes d (Import i) w = is_some (missing_import (d w) i)
writes d (Bring g n) w = is_some (missing_glob (d w) g n)
writes d (Use u n) w = is_some (missing_macro w u n)

-- how many of some steps do, one after another
abbrev pub count : Bool → ℕ
count true = 1
count false = 0

abbrev pub writes_of : MapsOf → List Step → World → ℕ
writes_of d [] w = 0
writes_of d (x ∷ xs) w = count (writes d x w) + writes_of d xs (after_step d x w)

-- a step is of what is given
abbrev pub IsOf : Given → Step → Type 0
IsOf x (Import i) = Contains x.imports i
IsOf x (Bring g n) = Contains x.globs g
IsOf x (Use u n) = Contains x.uses u

-- Another world is reached by such steps, of which so many at least write: nothing else is written.
pub record IsReached (d : MapsOf) (x : Given) (n : ℕ) (w v : World) : Type 0 where
  pub steps : List Step
  pub own : AllByRecursion (IsOf x) steps
  pub world : v ≡ made d steps w
  pub enough : n ≤ writes_of d steps w

-- each module shows the names that it showed
abbrev pub StillShow : World → World → Type 0
StillShow w v = (g : Globs) (k : ModuleId) → StaysShown w g v g k

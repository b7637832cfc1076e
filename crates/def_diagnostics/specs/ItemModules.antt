-- The module of a world that an item of a crate stands in.
use Rattle.std.specs.Prelude.{◌==◌, ◌&&◌, ℕ, Bool, List, Option, None, Some, position, slice_get}
use Rattle.std.specs.Option.{option_and_then}
use Rattle.def_diagnostics.specs.MacroCalls.{id_at}
use Rattle.crate_items.specs.FileItems as items
use Rattle.crate_items.specs.DeclaredModules.{Module}
use Rattle.crate_items.specs.Modules.{Listing, is_same}
use Rattle.crate_items.specs.Sources.{Source, source_at}
use Rattle.dm_base.specs.declared.ids.Crate.{Crate}
use Rattle.dm_base.specs.declared.ids.FileId.{FileId}
use Rattle.dm_base.specs.declared.ids.ModuleId.{ModuleId}
use Rattle.dm_base.specs.declared.edition.Edition.{Edition}

-- a crate of a world: its number there, its edition, the list of its modules, and the id of each that was not left out
pub record MappedCrate : Type 0 where
  pub krate : Crate
  pub edition : Edition
  pub list : Listing
  pub ids : List (Option ModuleId)

-- the item of the inline module that the item of a number stands in; none is the module of the file
abbrev pub home_of : Source → ℕ → Option ℕ
home_of s n = items.module_around s (items.home_of (slice_get s.standings n))

-- the module of a file, or an inline one in it
abbrev pub is_module_of : FileId → Option ℕ → Module → Bool
is_module_of f home m = (m.file.0 == f.0) && is_same m.item home

abbrev pub number_in : List Module → FileId → Option Source → ℕ → Option ℕ
number_in ms f None n = None
number_in ms f (Some s) n = position (is_module_of f (home_of s n)) ms

-- the number of the module that an item of a file stands in; of two modules of that file the first. What is in a trait
-- or an implementation stands in none
abbrev pub module_number : Listing → FileId → ℕ → Option ℕ
module_number l f n = number_in l.modules f (source_at l.sources f) n

-- and that module, unless it was left out
abbrev pub module_of : MappedCrate → FileId → ℕ → Option ModuleId
module_of c f n = option_and_then (id_at c.ids) (module_number c.list f n)

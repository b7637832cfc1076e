-- What the lists of scopes have, and which functions are procedural macros.
use Rattle.std.specs.Prelude.{ℕ, List, drop}
use Rattle.crate_items.specs.DeclaredModules.{Module}
use Rattle.crate_tables.specs.CrateTables.{Table}
use Rattle.crate_tables.specs.ExternLists.{with_extern_rows}
use Rattle.crate_tables.specs.ProceduralPairs.{with_pairs}
use Rattle.crate_tables.specs.ScopeLists.{with_scope_lists}
use Rattle.crate_tables.specs.declared.extern_crates.ExternCrateRow.{ExternCrateRow}
use Rattle.crate_tables.specs.declared.item_outline.ItemOutline.{ItemOutline}
use Rattle.dm_base.specs.declared.ids.Crate.{Crate}
use Rattle.dm_maps.specs.World.{World}

-- The definitions of a crate come into the lists of their modules, and so do its extern crates, whose rows begin at n. Then
-- its def map gets which functions are procedural macros.
abbrev pub with_all_lists : Crate → List Module → Table → World → List ItemOutline → ℕ → List ExternCrateRow → World
with_all_lists k ms t w xs n rows = with_pairs k t (with_extern_rows (with_scope_lists ms t w xs) n (drop n rows))

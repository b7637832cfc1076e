-- Extern crates in the lists of scopes.
use Rattle.std.specs.Prelude.{◌+◌, ℕ, List, [], ◌∷◌, if◌then◌else◌}
use Rattle.crate_tables.specs.ScopeEntries.{with_entry}
use Rattle.crate_tables.specs.declared.extern_crates.ExternCrateRow.{ExternCrateRow}
use Rattle.crate_tables.specs.declared.scope_entry.ScopeEntry.TheVariants as entry
use Rattle.dm_maps.specs.declared.check.held.HeldId.TheVariants as held
use Rattle.dm_maps.specs.Known.{knows}
use Rattle.dm_maps.specs.World.{World}

-- the extern crate of a row has the number of the row, and stands in its module
abbrev pub with_extern_row : World → ℕ → ExternCrateRow → World
with_extern_row w n r = if knows w (held.Module r.home) then with_entry w r.home (entry.ExternCrate (record { 0 = n })) else w

-- Rows from a number on: each extern crate is listed in its module, in order.
abbrev pub with_extern_rows : World → ℕ → List ExternCrateRow → World
with_extern_rows w n [] = w
with_extern_rows w n (r ∷ rs) = with_extern_rows (with_extern_row w n r) (n + 1) rs

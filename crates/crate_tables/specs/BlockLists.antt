-- `impl` and `extern` blocks in the lists of scopes, numbered over all crates.
use Rattle.std.specs.Prelude.{◌+◌, ℕ, true, false, List, [], ◌∷◌, if◌then◌else◌}
use Rattle.std.specs.List.{flat_map}
use Rattle.crate_tables.specs.CrateTables.{Table}
use Rattle.crate_tables.specs.ScopeEntries.{with_entry}
use Rattle.crate_tables.specs.declared.item_place.BlockKind.{BlockKind}
use Rattle.crate_tables.specs.declared.item_place.BlockKind.TheVariants.{TraitImpl, InherentImpl, Extern}
use Rattle.crate_tables.specs.declared.item_place.BlockPlace.{BlockPlace}
use Rattle.crate_tables.specs.declared.scope_entry.ScopeEntry.TheVariants as entry
use Rattle.dm_maps.specs.declared.check.held.HeldId.TheVariants as held
use Rattle.dm_base.specs.declared.ids.ModuleId.{ModuleId}
use Rattle.dm_maps.specs.Known.{knows}
use Rattle.dm_maps.specs.World.{World}

-- a block of a number stands in its module; an `impl` is listed with whether it is one of a trait
abbrev pub with_block_of : World → ModuleId → ℕ → BlockKind → World
with_block_of w m n TraitImpl = with_entry w m (entry.Impl (record { 0 = n }) true)
with_block_of w m n InherentImpl = with_entry w m (entry.Impl (record { 0 = n }) false)
with_block_of w m n Extern = with_entry w m (entry.ExternBlock (record { 0 = n }))

abbrev pub with_known_block : World → ℕ → BlockPlace → World
with_known_block w n b = with_block_of w b.home n b.kind

abbrev pub with_block : World → ℕ → BlockPlace → World
with_block w n b = if knows w (held.Module b.home) then with_known_block w n b else w

-- blocks from a number on, in order
abbrev pub with_blocks_from : World → ℕ → List BlockPlace → World
with_blocks_from w n [] = w
with_blocks_from w n (b ∷ bs) = with_blocks_from (with_block w n b) (n + 1) bs

-- the blocks of some crates, in order
abbrev pub blocks_of : List Table → List BlockPlace
blocks_of ts = flat_map (λ (t : Table). t.blocks) ts

-- The number of a block is its place among those of all crates, and each is listed in its module.
abbrev pub with_all_blocks : World → List Table → World
with_all_blocks w ts = with_blocks_from w 0 (blocks_of ts)

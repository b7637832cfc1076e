-- The `impl` and `extern` blocks of a crate, in its table.
use Rattle.std.specs.Prelude.{ℕ, Bool, false, List, [], ◌∷◌, Option, None, Some, slice_get, if◌then◌else◌}
use Rattle.crate_items.specs.declared.items.declared_item.DeclaredItem.{DeclaredItem}
use Rattle.crate_items.specs.Modules.{Listing}
use Rattle.crate_items.specs.Sources.{Source, source_at}
use Rattle.crate_tables.specs.CrateTables.{Table, with_block_at}
use Rattle.crate_tables.specs.Visibilities.{id_at}
use Rattle.crate_tables.specs.declared.item_place.BlockKind.{BlockKind}
use Rattle.crate_tables.specs.declared.item_place.BlockKind.TheVariants.{TraitImpl, InherentImpl, Extern}
use Rattle.crate_tables.specs.declared.item_place.BlockPlace.{BlockPlace}
use Rattle.dm_base.specs.declared.ids.ModuleId.{ModuleId}
use Rattle.item_tree.specs.Implementations.{is_of_trait}
use Rattle.item_tree.specs.declared.items.item_kind.ItemKind.{ItemKind}
use Rattle.item_tree.specs.declared.items.item_kind.ItemKind.TheVariants as item
use Rattle.item_tree.specs.declared.items.Item.{Item}

-- whether an item of a file is the implementation of a trait
abbrev pub of_trait : Source → Option Item → Bool
of_trait s None = false
of_trait s (Some x) = is_of_trait s.lexemes s.partners x

abbrev pub is_of_trait_in : Source → ℕ → Bool
is_of_trait_in s n = of_trait s (slice_get s.items n)

-- an `impl` is of a trait, or inherent
abbrev pub impl_kind : Option Source → ℕ → BlockKind
impl_kind None n = InherentImpl
impl_kind (Some s) n = if is_of_trait_in s n then TraitImpl else InherentImpl

-- of items these two are blocks
abbrev pub kind_by : ItemKind → BlockKind → Option BlockKind
kind_by item.Impl k = Some k
kind_by item.ExternBlock k = Some Extern
kind_by _ k = None

abbrev pub block_kind : Listing → DeclaredItem → Option BlockKind
block_kind l x = kind_by x.kind (impl_kind (source_at l.sources x.file) x.item)

-- a block is listed with its module, unless that was left out
abbrev pub place_of : BlockKind → ModuleId → DeclaredItem → BlockPlace
place_of k m x = record { kind = k; home = m; file = x.file; item = x.item }

abbrev pub block_in : Table → DeclaredItem → BlockKind → Option ModuleId → Table
block_in t x k None = t
block_in t x k (Some m) = with_block_at t (place_of k m x)

abbrev pub with_block : Table → DeclaredItem → BlockKind → Table
with_block t x k = block_in t x k (id_at t.ids x.«module»)

-- any other item is passed over
abbrev pub with_block_if : Table → DeclaredItem → Option BlockKind → Table
with_block_if t x None = t
with_block_if t x (Some k) = with_block t x k

abbrev pub with_item : Listing → Table → DeclaredItem → Table
with_item l t x = with_block_if t x (block_kind l x)

-- The blocks among the items of a crate come into its table, in order.
abbrev pub with_blocks : Listing → Table → List DeclaredItem → Table
with_blocks l t [] = t
with_blocks l t (x ∷ xs) = with_blocks l (with_item l t x) xs

-- Associated items, in the tables of a builder.
use Rattle.std.specs.Prelude.{◌≡◌, ◌+◌, ◌++◌, ◌⊎◌, ℕ, true, List, [], ◌∷◌, Option, None, Some, length, map, slice_get, take, if◌then◌else◌}
use Rattle.crate_tables.specs.BlockLists.{blocks_of}
use Rattle.crate_tables.specs.Containers.{containers_of, home_of}
use Rattle.crate_tables.specs.Numbers.{has_too_many, is_past}
use Rattle.crate_tables.specs.declared.assoc_items.containers.Container.{Container}
use Rattle.crate_tables.specs.declared.assoc_items.items.AssocPlace.{AssocPlace}
use Rattle.crate_items.specs.ModuleItems.{AreItemsIn}
use Rattle.crate_items.specs.RawVisibilities.{item_visibility}
use Rattle.crate_items.specs.declared.items.module_items.ModuleItem.{ModuleItem}
use Rattle.crate_items.specs.Files.{SourceFile}
use Rattle.crate_items.specs.Modules.{Listing}
use Rattle.crate_items.specs.Sources.{Source, source_at}
use Rattle.crate_tables.specs.CrateTables.{Table}
use Rattle.dm_base.specs.declared.visibility.RawVisibility.{RawVisibility}
use Rattle.dm_maps.specs.declared.check.held.HeldId.TheVariants as held
use Rattle.dm_base.specs.declared.item_ids.AssocItemId.{AssocItemId}
use Rattle.dm_base.specs.declared.item_ids.AssocItemId.TheVariants as assoc
use Rattle.dm_base.specs.declared.item_ids.ItemKind.{ItemKind as Kind}
use Rattle.dm_base.specs.declared.item_ids.ItemKind.TheVariants as kind
use Rattle.dm_base.specs.declared.item_ids.ModuleDefId.{ModuleDefId}
use Rattle.dm_base.specs.declared.item_ids.ModuleDefId.TheVariants as def
use Rattle.dm_maps.specs.Build.{item_def, with_item}
use Rattle.dm_maps.specs.BuildTables.{with_assoc_item}
use Rattle.dm_maps.specs.Known.{knows}
use Rattle.dm_maps.specs.World.{World}
use Rattle.item_tree.specs.declared.items.item_kind.ItemKind.{ItemKind}
use Rattle.item_tree.specs.declared.items.item_kind.ItemKind.TheVariants as item
use Rattle.item_tree.specs.declared.items.Item.{Item}

-- ---- Which items are associated

-- functions, constants and type aliases are
abbrev pub assoc_kind : ItemKind → Option Kind
assoc_kind item.Function = Some kind.Function
assoc_kind item.Const = Some kind.Const
assoc_kind item.TypeAlias = Some kind.TypeAlias
assoc_kind _ = None

abbrev pub kind_of : Option Item → Option Kind
kind_of None = None
kind_of (Some x) = assoc_kind x.kind

abbrev pub kind_in : Option Source → ℕ → Option Kind
kind_in None n = None
kind_in (Some s) n = kind_of (slice_get s.items n)

-- the associated item that a definition is
abbrev pub assoc_of : ModuleDefId → Option AssocItemId
assoc_of (def.FunctionId f) = Some (assoc.FunctionId f)
assoc_of (def.ConstId c) = Some (assoc.ConstId c)
assoc_of (def.TypeAliasId t) = Some (assoc.TypeAliasId t)
assoc_of _ = None

-- ---- One of them

-- a builder, and where each associated item so far is written
pub record Filled : Type 0 where
  pub world : World
  pub places : List AssocPlace

abbrev pub place_of : AssocItemId → ModuleItem → AssocPlace
place_of a r = record { id = a; file = r.file; item = r.item }

abbrev pub placed : World → List AssocPlace → Container → ModuleItem → RawVisibility → Option AssocItemId → Filled
placed w ps c r v None = record { world = w; places = ps }
placed w ps c r v (Some a) = record { world = with_assoc_item w a c.id v; places = ps ++ place_of a r ∷ [] }

-- the item of a row is added in the module of its container, with that and with its visibility as it is written
abbrev pub added : List SourceFile → Listing → Filled → Container → ModuleItem → Kind → Filled
added files l s c r k =
    placed (with_item s.world k c.home) s.places c r (item_visibility l files r.file r.item) (assoc_of (item_def k (length s.world.items)))

abbrev pub added_in : List SourceFile → Listing → Filled → Container → ModuleItem → Option Kind → Filled
added_in files l s c r None = s
added_in files l s c r (Some k) = if knows s.world (held.Module c.home) then added files l s c r k else s

-- ---- All of them

abbrev pub with_row_in : List SourceFile → Listing → Filled → ModuleItem → Option Container → Filled
with_row_in files l s r None = s
with_row_in files l s r (Some c) = added_in files l s c r (kind_in (source_at l.sources r.file) r.item)

-- a row is an item that stands in the container of its number
abbrev pub with_row : List SourceFile → Listing → List Container → Filled → ModuleItem → Filled
with_row files l cs s r = with_row_in files l s r (slice_get cs r.«module»)

abbrev pub with_rows : List SourceFile → Listing → List Container → Filled → List ModuleItem → Filled
with_rows files l cs s [] = s
with_rows files l cs s (r ∷ rs) = with_rows files l cs (with_row files l cs s r) rs

-- t is s with the associated items of some containers of a crate: of those that the crate has of the containers' files,
-- those that stand in each, in the order of the text
pub record AreAdded (files : List SourceFile) (l : Listing) (cs : List Container) (s t : Filled) : Type 0 where
  pub rows : List ModuleItem
  pub order : AreItemsIn l.sources 0 (map home_of cs) rows
  pub filled : t ≡ with_rows files l cs s rows

-- those of a crate whose modules are listed
abbrev pub AreAddedIf : List SourceFile → Option Listing → List Container → Filled → Filled → Type 0
AreAddedIf files None cs s t = t ≡ s
AreAddedIf files (Some l) cs s t = AreAdded files l cs s t

-- all is s with those of the traits and implementations of some crates, one after another: the crates have numbers from k on,
-- and their blocks from n on
abbrev pub AreAllAdded : List SourceFile → List Listing → ℕ → ℕ → List Table → Filled → Filled → Type 0
AreAllAdded files ls k n [] s all = all ≡ s
AreAllAdded files ls k n (t ∷ ts) s all =
    (next : Filled) × AreAddedIf files (slice_get ls k) (containers_of n t) s next
    × AreAllAdded files ls (k + 1) (n + length t.blocks) ts next all

-- ---- Why they are not added

-- with those of some containers there are more than 4,294,967,295 items
abbrev pub ItemsRunOut : List SourceFile → Listing → List Container → Filled → Type 0
ItemsRunOut files l cs s = (t : Filled) × AreAdded files l cs s t × (has_too_many t.world ≡ true)

-- those of a crate whose blocks have numbers from n on: there are too many blocks, or items
abbrev pub CrateRunsOut : List SourceFile → Option Listing → ℕ → Table → Filled → Type 0
CrateRunsOut files o n t s =
    (is_past (n + length t.blocks) ≡ true) ⊎ ((all : Filled) × AreAddedIf files o (containers_of n t) s all × (has_too_many all.world ≡ true))

-- Numbers run out where some crates have more than 4,294,967,295 blocks, or the world would have so many items with the
-- associated ones of the crates up to some crate.
abbrev pub RunsOut : List SourceFile → List Listing → List Table → Filled → Type 0
RunsOut files ls ts s =
    (is_past (length (blocks_of ts)) ≡ true)
    ⊎ ((n : ℕ) × (all : Filled) × AreAllAdded files ls 0 0 (take n ts) s all × (has_too_many all.world ≡ true))

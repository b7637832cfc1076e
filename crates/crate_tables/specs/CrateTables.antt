-- What a crate has in a builder: the ids of its modules, the names that they declare, what they import, its blocks, and where
-- all that is written.
use Rattle.std.specs.Prelude.{◌++◌, All, IsTrue, List, [], ◌∷◌, Option, None, Some}
use Rattle.crate_tables.specs.Visibilities.{AreIdsOf, Ids}
use Rattle.crate_items.specs.declared.items.declared_item.DeclaredItem.{DeclaredItem}
use Rattle.crate_tables.specs.declared.declared_name.DeclaredName.{DeclaredName}
use Rattle.crate_tables.specs.declared.item_place.BlockPlace.{BlockPlace}
use Rattle.crate_tables.specs.declared.item_place.DefPlace.{DefPlace}
use Rattle.crate_tables.specs.declared.item_place.UsePlace.{UsePlace}
use Rattle.crate_tables.specs.declared.use_leaf.UseLeaf.{UseLeaf}
use Rattle.dm_base.specs.PerNs.{type_alone}
use Rattle.dm_base.specs.declared.per_ns.PerNs.{PerNs}
use Rattle.dm_base.specs.declared.visibility.Visibility.{Visibility}
use Rattle.dm_maps.specs.Holding.{def_holds, vis_holds}
use Rattle.dm_maps.specs.Pushes.{push_holds}
use Rattle.dm_maps.specs.declared.check.held.HeldId.{HeldId}
use Rattle.dm_maps.specs.declared.check.held.HeldId.TheVariants as held
use Rattle.dm_base.specs.Names.{Name}
use Rattle.dm_base.specs.declared.ids.Crate.{Crate}
use Rattle.dm_base.specs.declared.ids.ModuleId.{ModuleId}
use Rattle.dm_base.specs.declared.ids.UseId.{UseId}
use Rattle.dm_base.specs.declared.item_ids.MacroId.{MacroId}
use Rattle.dm_base.specs.declared.item_ids.ModuleDefId.{ModuleDefId}
use Rattle.dm_base.specs.declared.item_ids.ModuleDefId.TheVariants as def
use Rattle.dm_maps.specs.Known.{knows, KnowsAll}
use Rattle.dm_maps.specs.World.{World}

-- for each module of the crate's list its id, unless it was left out; names with what they are; imports; and where each use,
-- each definition and each block is written
pub record Table : Type 0 where
  pub ids : Ids
  pub names : List DeclaredName
  pub leaves : List UseLeaf
  pub uses : List UsePlace
  pub defs : List DefPlace
  pub blocks : List BlockPlace

abbrev pub no_table : Table
no_table = record { ids = []; names = []; leaves = []; uses = []; defs = []; blocks = [] }

-- with a name more
abbrev pub with_name : Table → DeclaredName → Table
with_name t d = record t { names = t.names ++ d ∷ [] }

-- with a module more that is left out
abbrev pub left_out : Table → Table
left_out t = record t { ids = t.ids ++ None ∷ [] }

-- with a name more, where there is one
abbrev pub with_named : Table → ModuleId → Option Name → PerNs → Table
with_named t m None items = t
with_named t m (Some n) items = with_name t (record { home = m; name = n; items = items })

-- with the leaves of a use more
abbrev pub with_leaves : Table → List UseLeaf → Table
with_leaves t ls = record t { leaves = t.leaves ++ ls }

-- with a use more, which the item x is
abbrev pub use_at : UseId → DeclaredItem → UsePlace
use_at u x = record { use_ = u; file = x.file; item = x.item }

abbrev pub with_use_at : Table → UsePlace → Table
with_use_at t p = record t { uses = t.uses ++ p ∷ [] }

-- with a definition of the module m more, which the item x is
abbrev pub def_at : ModuleDefId → ModuleId → DeclaredItem → DefPlace
def_at d m x = record { def = d; home = m; file = x.file; item = x.item }

abbrev pub with_def_at : Table → DefPlace → Table
with_def_at t p = record t { defs = t.defs ++ p ∷ [] }

-- with a block more
abbrev pub with_block_at : Table → BlockPlace → Table
with_block_at t p = record t { blocks = t.blocks ++ p ∷ [] }

-- without names and imports: what is left where these were taken
abbrev pub emptied : Table → Table
emptied t = record t { names = []; leaves = [] }

-- a module as its parent declares it: a type
abbrev pub module_name : ModuleId → Name → Visibility → ModuleId → DeclaredName
module_name p n v m = record { home = p; name = n; items = type_alone (def.ModuleId m) v None }

-- with a module more, of that name below p
abbrev pub with_id : Table → ModuleId → Name → Visibility → Option ModuleId → Table
with_id t p n v None = left_out t
with_id t p n v (Some m) = record t { ids = t.ids ++ Some m ∷ []; names = t.names ++ module_name p n v m ∷ [] }

-- a name whose module is the builder's, and all that the name holds there
pub record IsNameOf (w : World) (d : DeclaredName) : Type 0 where
  pub known : KnowsAll w (push_holds d.home d.items None)

abbrev pub textual_holds : Option MacroId → List HeldId
textual_holds None = []
textual_holds (Some id) = held.Macro id ∷ []

-- the ids that an import names: its module, its use, those of its visibility, and the textual macro that it means
abbrev pub leaf_holds : UseLeaf → List HeldId
leaf_holds x = ((held.Module x.home ∷ held.Use x.use_ ∷ []) ++ vis_holds x.visibility) ++ textual_holds x.textual

-- an import whose ids are the builder's
abbrev pub IsLeafOf : World → UseLeaf → Type 0
IsLeafOf w x = KnowsAll w (leaf_holds x)

-- a macro that is the builder's, if there is one
abbrev pub IsMacroOf : World → Option MacroId → Type 0
IsMacroOf w id = KnowsAll w (textual_holds id)

-- the table is of a crate of the builder, and holds nothing but what is the builder's
pub record IsTableOf (w : World) (k : Crate) (t : Table) : Type 0 where
  pub krate : IsTrue (knows w (held.Crate k))
  pub ids : AreIdsOf w t.ids
  pub names : All (IsNameOf w) t.names
  pub leaves : All (IsLeafOf w) t.leaves

-- each definition of the table is the builder's
abbrev pub HasKnownDefs : World → Table → Type 0
HasKnownDefs w t = All (λ (p : DefPlace). KnowsAll w (def_holds p.def)) t.defs

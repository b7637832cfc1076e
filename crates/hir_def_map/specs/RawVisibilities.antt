-- Resolution of raw visibilities: `pub`, `pub(crate)`, `pub(self)`, `pub(in path)`.
use Rattle.std.specs.Prelude.{◌≡◌, ◌||◌, ℕ, Bool, true, false, IsSome, List, [], Option, Some, None, if◌then◌else◌, map}
use Rattle.std.specs.Option.{option_map, option_map_or, option_and_then}
use Rattle.dm_base.specs.declared.ids.BlockId.{BlockId}
use Rattle.dm_base.specs.declared.ids.ModuleId.{ModuleId}
use Rattle.dm_base.specs.declared.item_ids.AdtId.TheVariants as adt
use Rattle.dm_base.specs.declared.item_ids.AssocItemId.{AssocItemId}
use Rattle.dm_base.specs.declared.item_ids.AssocItemId.TheVariants as assoc
use Rattle.dm_base.specs.declared.item_ids.ItemContainerId.{ItemContainerId}
use Rattle.dm_base.specs.declared.item_ids.ItemContainerId.TheVariants as container
use Rattle.dm_base.specs.declared.item_ids.ModuleDefId.{ModuleDefId}
use Rattle.dm_base.specs.declared.item_ids.ModuleDefId.TheVariants as def
use Rattle.dm_base.specs.declared.item_ids.VariantId.{VariantId}
use Rattle.dm_base.specs.declared.item_ids.VariantId.TheVariants as variant
use Rattle.dm_base.specs.declared.per_ns.PerNs.{PerNs}
use Rattle.dm_base.specs.declared.visibility.RawVisibility.{RawVisibility}
use Rattle.dm_base.specs.declared.visibility.RawVisibility.TheVariants as raw
use Rattle.dm_base.specs.declared.visibility.Visibility.{Visibility}
use Rattle.dm_base.specs.declared.visibility.Visibility.TheVariants.{Module, PubCrate, Public}
use Rattle.dm_base.specs.declared.visibility.VisibilityExplicitness.{VisibilityExplicitness}
use Rattle.dm_base.specs.declared.visibility.VisibilityExplicitness.TheVariants.{Implicit}
use Rattle.dm_base.specs.ItemHomes.{def_module}
use Rattle.dm_base.specs.Tree.{same_block}
use Rattle.dm_base.specs.Visibility.{NamesKnown}
use Rattle.dm_maps.specs.Holding.{local_holds, vis_holds}
use Rattle.dm_maps.specs.TablesHold.{raw_holds}
use Rattle.dm_def_map.specs.declared.modules.modes.BuiltinShadowMode.TheVariants as shadow
use Rattle.dm_def_map.specs.Maps.{Map, LocalMap, module_at}
use Rattle.dm_maps.specs.First.{local_at}
use Rattle.dm_maps.specs.ItemHomes.{homes_of}
use Rattle.dm_maps.specs.Known.{KnowsAll}
use Rattle.dm_maps.specs.Trees.{tree_of}
use Rattle.dm_maps.specs.RawTables.{fields_in, assoc_in, trait_visibility_in}
use Rattle.dm_maps.specs.World.{World, map_of, numbered_map}
use Rattle.hir_def_map.specs.declared.path_resolution.result.ResolveMode.TheVariants.{Other}
use Rattle.hir_def_map.specs.declared.path_resolution.result.ResolvePathResult.{ResolvePathResult}
use Rattle.hir_def_map.specs.Paths.{asked, answer, type_module}

-- A raw visibility that a world can resolve: the map is the world's of its id, the module that it is written in lies in
-- it, and local map and path name only what the world has.
pub record IsKnownVisibility (w : World) (M : Map) (L : LocalMap) (m : ModuleId) (v : RawVisibility) : Type 0 where
  pub map : numbered_map w M.id ≡ Some M
  pub origin : IsSome (module_at M.modules m)
  pub local_known : KnowsAll w (local_holds L)
  pub path_known : KnowsAll w (raw_holds v)

-- A visibility of the world's: the module that it names is the tree's, and each id that it holds is known.
pub record IsOfWorld (w : World) (v : Visibility) : Type 0 where
  pub names : NamesKnown (tree_of w) v
  pub held : KnowsAll w (vis_holds v)

-- ---- By a path

-- the module that a path resolves to: none where a segment is left, or the type is no module
abbrev pub module_reached : PerNs → Option ℕ → Option ModuleId
module_reached x left = elim left [ Some i ↦ None | None ↦ type_module x.types ]

-- the block in whose map a module lies, if it lies in one
abbrev pub block_in : World → ModuleId → Option BlockId
block_in w t = option_and_then (λ T. T.id.block) (map_of w t)

-- The module that a visibility of a map names for t: t itself where it lies in a map of the same block, or both are in
-- none, and within an `impl`. Any other is replaced by the map's root.
abbrev pub restricted : World → Map → Bool → ModuleId → ModuleId
restricted w M within_impl t = if within_impl || same_block (block_in w t) M.id.block then t else M.root

-- by what the path leads to: none where that is no module
abbrev pub by_path : World → Map → Bool → VisibilityExplicitness → ResolvePathResult → Option Visibility
by_path w M within_impl e a = option_map (λ t. Module (restricted w M within_impl t) e) (module_reached a.resolved_def a.segment_index)

-- What a raw visibility in module m of a map resolves to. Its path is not an import's, modules shadow builtin types in
-- it, and it expects no macro.
abbrev pub raw_visibility : World → LocalMap → Map → ModuleId → Bool → RawVisibility → Option Visibility
raw_visibility w L M m within_impl (raw.Module p e) = by_path w M within_impl e (answer w L (asked m Other shadow.Module None p.kind) p.segments)
raw_visibility w L M m within_impl (raw.PubSelf e) = Some (Module m e)
raw_visibility w L M m within_impl raw.PubCrate = Some (PubCrate M.id.krate)
raw_visibility w L M m within_impl raw.Public = Some Public

-- an item whose raw visibility does not resolve is public
abbrev pub or_public : Option Visibility → Visibility
or_public v = option_map_or (λ x. x) v Public

-- the same in a module's own map, with the extern prelude of its crate
abbrev pub visibility_in : World → ModuleId → Bool → RawVisibility → Visibility
visibility_in w m within_impl v = or_public (option_and_then (λ M. raw_visibility w (local_at w.local_maps M.id.krate.0) M m within_impl v) (map_of w m))

-- ---- Of fields

abbrev pub variant_def : VariantId → ModuleDefId
variant_def (variant.EnumVariantId v) = def.EnumVariantId v
variant_def (variant.StructId s) = def.AdtId (adt.StructId s)
variant_def (variant.UnionId u) = def.AdtId (adt.UnionId u)

-- what the raw visibilities of a list resolve to in a module, in order
abbrev pub visibilities_in : World → ModuleId → List RawVisibility → List Visibility
visibilities_in w m vs = map (visibility_in w m false) vs

-- who sees each field of a variant, a struct or a union; no list where none was set
abbrev pub field_visibilities_of : World → VariantId → List Visibility
field_visibilities_of w v = option_map_or (λ m. option_map_or (visibilities_in w m) (fields_in w v) []) (def_module (homes_of w) (variant_def v)) []

-- ---- Of associated items

abbrev pub assoc_def : AssocItemId → ModuleDefId
assoc_def (assoc.FunctionId f) = def.FunctionId f
assoc_def (assoc.ConstId c) = def.ConstId c
assoc_def (assoc.TypeAliasId t) = def.TypeAliasId t

-- where none was set: in its own module, as if nothing were written
abbrev pub or_unset : Option RawVisibility → RawVisibility
or_unset v = option_map_or (λ x. x) v (raw.PubSelf Implicit)

-- what the raw visibility of a definition resolves to: in the definition's module
abbrev pub written_at : World → ModuleDefId → Bool → RawVisibility → Visibility
written_at w d within_impl v = or_public (option_map (λ m. visibility_in w m within_impl v) (def_module (homes_of w) d))

-- In a trait an item has the trait's visibility; else its own, which in an `impl` may name a module of any block.
abbrev pub by_container : World → ModuleDefId → ItemContainerId → RawVisibility → Visibility
by_container w d (container.TraitId t) v = written_at w (def.TraitId t) false (or_unset (trait_visibility_in w t))
by_container w d (container.ImplId i) v = written_at w d true v
by_container w d (container.ExternBlockId b) v = written_at w d false v
by_container w d (container.ModuleId m) v = written_at w d false v

-- an item of which nothing was set lies in its module
abbrev pub assoc_visibility_of : World → AssocItemId → Visibility
assoc_visibility_of w a = elim (assoc_in w a) [
  | None ↦ written_at w (assoc_def a) false (raw.PubSelf Implicit)
  | Some e ↦ by_container w (assoc_def a) e.0 e.1
]

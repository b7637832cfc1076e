-- What an import brings of the items that its path means, and who sees each of them: by the kind of the import.
use Rattle.std.specs.Prelude.{not, Bool, false, true, Option, Some, None, if◌then◌else◌}
use Rattle.std.specs.Option.{option_map_or}
use Rattle.dm_base.specs.declared.ids.Crate.{Crate}
use Rattle.dm_base.specs.declared.ids.ModuleId.{ModuleId}
use Rattle.dm_base.specs.declared.per_ns.Item.{Item}
use Rattle.dm_base.specs.declared.per_ns.PerNs.{PerNs}
use Rattle.dm_base.specs.declared.visibility.Visibility.{Visibility}
use Rattle.dm_base.specs.declared.visibility.Visibility.TheVariants.{Module, PubCrate, Public}
use Rattle.dm_base.specs.PerNs.{is_empty, seen_as}
use Rattle.dm_base.specs.Tree.{Tree, same_crate, crate_of}
use Rattle.dm_base.specs.Visibility.{min_of}
use Rattle.dm_retry.specs.declared.import_kind.ImportKind.{ImportKind}
use Rattle.dm_retry.specs.declared.import_kind.ImportKind.TheVariants as kind

-- ---- A re-export, in module m, of visibility v

-- Who sees a re-exported item: the less permissive of its own visibility and v, and its own where neither is that.
abbrev pub narrowed : Tree → ModuleId → Visibility → Visibility → Visibility
narrowed t m v own = option_map_or (λ least. least) (min_of t (t.map_of m) own v) own

-- whether a visibility is of another crate than k, and so not public
abbrev pub is_foreign : Tree → Crate → Visibility → Bool
is_foreign t k (Module m e) = not (same_crate (crate_of t m) k)
is_foreign t k (PubCrate l) = not (same_crate l k)
is_foreign t k Public = false

-- an item as it is re-exported, if it is
abbrev pub narrowed_item : {D I : Type 0} → Tree → ModuleId → Visibility → Option (Item D I) → Option (Item D I)
narrowed_item t m v None = None
narrowed_item t m v (Some i) = if is_foreign t (crate_of t m) i.vis then None else Some (record i { vis = narrowed t m v i.vis })

abbrev pub re_exported : Tree → ModuleId → Visibility → PerNs → PerNs
re_exported t m v x = record {
  types = narrowed_item t m v x.types;
  values = narrowed_item t m v x.values;
  macros = narrowed_item t m v x.macros;
}

-- ---- All kinds

-- the type of some items alone
abbrev pub types_alone : PerNs → PerNs
types_alone x = record { types = x.types; values = None; macros = None }

-- the items that an import in module m of visibility v brings of x
abbrev pub by_kind : Tree → ModuleId → Visibility → ImportKind → PerNs → PerNs
by_kind t m v kind.Plain x = seen_as v x
by_kind t m v kind.TypeOnly x = seen_as v (types_alone x)
by_kind t m v kind.ReExport x = re_exported t m v x
by_kind t m v kind.Unnamed x = seen_as v x

-- whether it binds no name: of what it brings a trait alone goes into the module's scope, among the unnamed ones
abbrev pub is_unnamed : ImportKind → Bool
is_unnamed kind.Unnamed = true
is_unnamed _ = false

-- some items, where there is one
abbrev pub if_any : PerNs → Option PerNs
if_any x = if is_empty x then None else Some x

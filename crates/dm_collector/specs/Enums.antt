-- Who sees enums: as the names that declare them are seen.
use Rattle.std.specs.Prelude.{List, Option, Some, None, fold, if◌then◌else◌}
use Rattle.std.specs.Option.{option_and_then, option_or}
use Rattle.dm_base.specs.declared.ids.EnumId.{EnumId}
use Rattle.dm_base.specs.declared.item_ids.AdtId.TheVariants as adt
use Rattle.dm_base.specs.declared.item_ids.ModuleDefId.{ModuleDefId}
use Rattle.dm_base.specs.declared.item_ids.ModuleDefId.TheVariants as def
use Rattle.dm_base.specs.declared.per_ns.PerNs.{PerNs}
use Rattle.dm_base.specs.declared.visibility.Visibility.{Visibility}
use Rattle.crate_tables.specs.declared.declared_name.DeclaredName.{DeclaredName}
use Rattle.dm_def_map.specs.Variants.{same_enum}

-- the enum that a definition is, seen so
abbrev pub enum_of : ModuleDefId → Visibility → Option (EnumId × Visibility)
enum_of (def.AdtId (adt.EnumId e)) v = Some (e, v)
enum_of _ v = None

abbrev pub enum_in : PerNs → Option (EnumId × Visibility)
enum_in x = option_and_then (λ i. enum_of i.def i.vis) x.types

-- who sees an enum, if a name declares it
abbrev pub if_same : EnumId → EnumId × Visibility → Option Visibility
if_same e x = if same_enum x.0 e then Some x.1 else None

abbrev pub seen_by : DeclaredName → EnumId → Option Visibility
seen_by n e = option_and_then (if_same e) (enum_in n.items)

-- of some names the last that declares it
abbrev pub enum_vis : List DeclaredName → EnumId → Option Visibility
enum_vis ns e = fold (λ o n. option_or (seen_by n e) o) None ns

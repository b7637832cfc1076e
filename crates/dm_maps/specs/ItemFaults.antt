-- The errors of adding uses, macros and variants.
use Rattle.std.specs.Prelude.{Bool, not, Option, is_some}
use Rattle.dm_base.specs.declared.ids.ModuleId.{ModuleId}
use Rattle.dm_base.specs.declared.ids.EnumId.{EnumId}
use Rattle.dm_base.specs.declared.item_ids.ItemKind.TheVariants as item
use Rattle.dm_base.specs.Names.{Name, find_name}
use Rattle.dm_maps.specs.declared.build_fault.BuildFault.{BuildFault}
use Rattle.dm_maps.specs.declared.check.held.HeldId.TheVariants as held
use Rattle.dm_maps.specs.World.{World}
use Rattle.dm_maps.specs.Known.{knows}
use Rattle.dm_maps.specs.Readings.{variants_of}
use Rattle.dm_maps.specs.Faults.{first_fault, none_found, is_full, lacks_module}

-- of a new use in a module
abbrev pub use_fault : World → ModuleId → Option BuildFault
use_fault w m = first_fault (record none_found { no_module = lacks_module w m; full = is_full w.uses })

-- of a new macro in a module
abbrev pub macro_fault : World → ModuleId → Option BuildFault
macro_fault w m = first_fault (record none_found { no_module = lacks_module w m; full = is_full w.macros })

-- there is no such item, or it is no enum
abbrev pub lacks_enum : World → EnumId → Bool
lacks_enum w e = not (knows w (held.Item item.Enum e.0))

-- whether an enum has a variant of that name
abbrev pub has_variant : World → EnumId → Name → Bool
has_variant w e n = is_some (find_name n (variants_of w e))

-- of a new variant
unfoldable pub variant_fault : World → EnumId → Name → Option BuildFault
variant_fault w e n = first_fault (record none_found { no_enum = lacks_enum w e; taken_variant = has_variant w e n; full = is_full w.variants })

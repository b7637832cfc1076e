-- The modules and crates that declare items.
use Rattle.std.specs.Prelude.{Option, Some, None}
use Rattle.std.specs.Option.{option_and_then}
use Rattle.dm_base.specs.declared.ids.ModuleId.{ModuleId}
use Rattle.dm_base.specs.declared.ids.Crate.{Crate}
use Rattle.dm_base.specs.declared.ids.EnumId.{EnumId}
use Rattle.dm_base.specs.declared.ids.EnumVariantId.{EnumVariantId}
use Rattle.dm_base.specs.declared.item_ids.AdtId.TheVariants as adts
use Rattle.dm_base.specs.declared.item_ids.MacroId.{MacroId}
use Rattle.dm_base.specs.declared.item_ids.ModuleDefId.{ModuleDefId}
use Rattle.dm_base.specs.declared.item_ids.ModuleDefId.TheVariants as defs
use Rattle.dm_base.specs.declared.item_in_ns.ItemInNs.{ItemInNs}
use Rattle.dm_base.specs.declared.item_in_ns.ItemInNs.TheVariants.{Types, Values, Macros}

-- What is known of where items were declared: nothing of an unknown one.
pub record Homes : Type 0 where
  -- the module of a function, struct, union, enum, const, static, trait or type alias
  pub item : ModuleDefId → Option ModuleId
  -- the enum of a variant
  pub variant : EnumVariantId → Option EnumId
  -- the module of a macro
  pub mac : MacroId → Option ModuleId
  -- the crate of a module
  pub krate : ModuleId → Option Crate

-- a variant lies where its enum does
abbrev pub variant_module : Homes → EnumVariantId → Option ModuleId
variant_module h v = option_and_then (λ e. h.item (defs.AdtId (adts.EnumId e))) (h.variant v)

-- the module of a definition: of a module itself, of a builtin type none
abbrev pub def_module : Homes → ModuleDefId → Option ModuleId
def_module h (defs.ModuleId m) = Some m
def_module h (defs.FunctionId f) = h.item (defs.FunctionId f)
def_module h (defs.AdtId a) = h.item (defs.AdtId a)
def_module h (defs.EnumVariantId v) = variant_module h v
def_module h (defs.ConstId k) = h.item (defs.ConstId k)
def_module h (defs.StaticId s) = h.item (defs.StaticId s)
def_module h (defs.TraitId t) = h.item (defs.TraitId t)
def_module h (defs.TypeAliasId t) = h.item (defs.TypeAliasId t)
def_module h (defs.BuiltinType b) = None
def_module h (defs.MacroId m) = h.mac m

abbrev pub item_module : Homes → ItemInNs → Option ModuleId
item_module h (Types d) = def_module h d
item_module h (Values d) = def_module h d
item_module h (Macros m) = h.mac m

abbrev pub item_krate : Homes → ItemInNs → Option Crate
item_krate h i = option_and_then h.krate (item_module h i)

-- the definition of a type or a value
abbrev pub module_def : ItemInNs → Option ModuleDefId
module_def (Types d) = Some d
module_def (Values d) = Some d
module_def (Macros m) = None

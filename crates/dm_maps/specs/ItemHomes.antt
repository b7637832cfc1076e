-- Where a world's items were declared.
use Rattle.std.specs.Prelude.{ℕ, Option, Some, None, slice_get, if◌then◌else◌}
use Rattle.std.specs.Option.{option_map, option_and_then}
use Rattle.dm_base.specs.declared.ids.ModuleId.{ModuleId}
use Rattle.dm_base.specs.declared.item_ids.AdtId.TheVariants as adt
use Rattle.dm_base.specs.declared.item_ids.ItemKind.{ItemKind}
use Rattle.dm_base.specs.declared.item_ids.ItemKind.TheVariants as item
use Rattle.dm_base.specs.declared.item_ids.MacroId.{MacroId}
use Rattle.dm_base.specs.declared.item_ids.ModuleDefId.{ModuleDefId}
use Rattle.dm_base.specs.declared.item_ids.ModuleDefId.TheVariants as def
use Rattle.dm_base.specs.ItemHomes.{Homes}
use Rattle.dm_maps.specs.Kinds.{same_kind, macro_number, is_of_kind}
use Rattle.dm_maps.specs.World.{World, place_of}

-- the module of the item of that number, if the item is of that kind
abbrev pub module_of_item : World → ItemKind → ℕ → Option ModuleId
module_of_item w k n = option_and_then (λ i. if same_kind k i.0 then Some i.1 else None) (slice_get w.items n)

-- the module of a function, struct, union, enum, const, static, trait or type alias
abbrev pub module_of_def : World → ModuleDefId → Option ModuleId
module_of_def w (def.ModuleId m) = None
module_of_def w (def.FunctionId n) = module_of_item w item.Function n.0
module_of_def w (def.AdtId (adt.StructId n)) = module_of_item w item.Struct n.0
module_of_def w (def.AdtId (adt.UnionId n)) = module_of_item w item.Union n.0
module_of_def w (def.AdtId (adt.EnumId n)) = module_of_item w item.Enum n.0
module_of_def w (def.EnumVariantId v) = None
module_of_def w (def.ConstId n) = module_of_item w item.Const n.0
module_of_def w (def.StaticId n) = module_of_item w item.Static n.0
module_of_def w (def.TraitId n) = module_of_item w item.Trait n.0
module_of_def w (def.TypeAliasId n) = module_of_item w item.TypeAlias n.0
module_of_def w (def.BuiltinType b) = None
module_of_def w (def.MacroId m) = None

-- the module of the macro of that number, if the macro is of the kind that its id says
abbrev pub module_of_macro : World → MacroId → Option ModuleId
module_of_macro w m = option_and_then (λ e. if is_of_kind m e.1 then Some e.0 else None) (slice_get w.macros (macro_number m))

-- What a world knows of where items were declared; of a variant its enum, and of a module its crate.
unfoldable pub homes_of : World → Homes
homes_of w = record {
  item = module_of_def w;
  variant = λ v. slice_get w.variants v.0;
  mac = module_of_macro w;
  krate = λ m. option_map (λ p. p.map.krate) (place_of w m);
}

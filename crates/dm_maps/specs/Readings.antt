-- All that path resolution reads: the name-independent part of a world, and what a world says of one name.
use Rattle.std.specs.Prelude.{Bool, true, false, List, [], Option, Some, None, slice_get, if◌then◌else◌}
use Rattle.std.specs.Option.{option_map, option_map_or, option_and_then}
use Rattle.std.specs.Map.{lookup}
use Rattle.dm_base.specs.declared.ids.ModuleId.{ModuleId}
use Rattle.dm_base.specs.declared.ids.BlockId.{BlockId}
use Rattle.dm_base.specs.declared.ids.Crate.{Crate}
use Rattle.dm_base.specs.declared.ids.EnumId.{EnumId}
use Rattle.dm_base.specs.declared.ids.EnumVariantId.{EnumVariantId}
use Rattle.dm_base.specs.declared.ids.ExternCrateId.{ExternCrateId}
use Rattle.dm_base.specs.declared.ids.MapId.{MapId}
use Rattle.dm_base.specs.declared.item_ids.MacroId.{MacroId}
use Rattle.dm_base.specs.declared.item_ids.MacroId.TheVariants.{Macro2Id, MacroRulesId, ProcMacroId}
use Rattle.dm_base.specs.declared.fields_shape.FieldsShape.{FieldsShape}
use Rattle.dm_base.specs.declared.macros.MacroLoc.{MacroLoc}
use Rattle.dm_base.specs.declared.macros.MacroLoc.TheVariants as loc
use Rattle.dm_base.specs.declared.macros.MacroCallStyles.{MacroCallStyles}
use Rattle.dm_base.specs.declared.builtin_type.BuiltinType.{BuiltinType}
use Rattle.dm_base.specs.declared.per_ns.PerNs.{PerNs}
use Rattle.dm_base.specs.declared.edition.Edition.{Edition}
use Rattle.dm_base.specs.declared.edition.Edition.TheVariants.{Edition2015, Edition2018, Edition2021, Edition2024}
use Rattle.dm_base.specs.Names.{Name, find_name}
use Rattle.dm_base.specs.Tree.{Tree}
use Rattle.dm_base.specs.Builtins.{builtin_words}
use Rattle.dm_base.specs.Styles as kinds
use Rattle.dm_scope.specs.Scope.{bound_in, legacy_in}
use Rattle.dm_scope.specs.Tables.{no_style}
use Rattle.dm_def_map.specs.Maps.{LocalMap}
use Rattle.dm_def_map.specs.Variants.{same_enum}
use Rattle.dm_maps.specs.declared.rules.Rules.{Rules}
use Rattle.dm_maps.specs.World.{World, crate_map, numbered_map, scope_of}
use Rattle.dm_maps.specs.Trees.{tree_of}
use Rattle.dm_maps.specs.Kinds.{is_of_kind, macro_number}

-- The name-independent part of a world, as far as path resolution reads it: the module tree, and the tables by id.
pub record Setting : Type 0 where
  pub tree : Tree
  -- the root of each crate, and whether its edition is 2015
  pub root_of : Crate → Option ModuleId
  pub is_2015 : Crate → Bool
  -- the root of each block's map
  pub block_root : BlockId → Option ModuleId
  -- the prelude module of each map
  pub prelude : MapId → Option ModuleId
  -- the styles of each macro
  pub styles : MacroId → MacroCallStyles
  -- the version of the rules
  pub rules : Rules

-- What a world and a local map say of one name: all that a path reads of it.
pub record Reading : Type 0 where
  -- what each module's scope binds under it
  pub bound : ModuleId → PerNs
  -- the last legacy macro of each module, which in textual scope shadows those before it
  pub legacy : ModuleId → Option MacroId
  -- the variant of each enum
  pub variant : EnumId → Option (EnumVariantId × FieldsShape)
  -- the macro that each map's `macro_use` prelude has
  pub macro_use : MapId → Option (MacroId × Option ExternCrateId)
  -- the module that the local map has, and the builtin type of that name
  pub extern : Option (ModuleId × Option ExternCrateId)
  pub builtin : Option BuiltinType

abbrev pub is_edition_2015 : Edition → Bool
is_edition_2015 Edition2015 = true
is_edition_2015 Edition2018 = false
is_edition_2015 Edition2021 = false
is_edition_2015 Edition2024 = false

-- the styles of a macro, where what stands under its number is of its kind
abbrev pub styles_by : MacroId → MacroLoc → MacroCallStyles
styles_by (Macro2Id n) (loc.Macro2 e) = kinds.styles_of (loc.Macro2 e)
styles_by (MacroRulesId n) (loc.MacroRules e) = kinds.styles_of (loc.MacroRules e)
styles_by (ProcMacroId n) (loc.Proc k) = kinds.styles_of (loc.Proc k)
styles_by _ _ = no_style

-- what a macro of the world's is
abbrev pub macro_loc_of : World → MacroId → Option MacroLoc
macro_loc_of w m = option_and_then (λ e. if is_of_kind m e.1 then Some e.1 else None) (slice_get w.macros (macro_number m))

-- no style for a macro that is not the world's
abbrev pub styles_of : World → MacroId → MacroCallStyles
styles_of w m = option_map_or (λ e. styles_by m e.1) (slice_get w.macros (macro_number m)) no_style

abbrev pub variants_of : World → EnumId → List (Name × (EnumVariantId × FieldsShape))
variants_of w e = option_map_or (λ vs. vs) (lookup (same_enum e) w.enums) []

abbrev pub macro_uses_of : World → MapId → List (Name × (MacroId × Option ExternCrateId))
macro_uses_of w id = option_map_or (λ m. m.macro_use) (numbered_map w id) []

-- the root of a crate, and of a block's map
abbrev pub root_of : World → Crate → Option ModuleId
root_of w k = option_map (λ m. m.root) (crate_map w k)

abbrev pub block_root_of : World → BlockId → Option ModuleId
block_root_of w b = option_map (λ m. m.root) (slice_get w.block_maps b.0)

abbrev pub is_2015_in : World → Crate → Bool
is_2015_in w k = option_map_or (λ m. is_edition_2015 m.edition) (crate_map w k) false

-- the prelude module of a map
abbrev pub prelude_of : World → MapId → Option ModuleId
prelude_of w id = option_and_then (λ m. option_map (λ p. p.0) m.prelude) (numbered_map w id)

unfoldable pub setting_of : World → Setting
unfolding tree_of
setting_of w = record {
  tree = tree_of w;
  root_of = root_of w;
  is_2015 = is_2015_in w;
  block_root = block_root_of w;
  prelude = prelude_of w;
  styles = styles_of w;
  rules = w.rules;
}

unfoldable pub read : World → LocalMap → Name → Reading
read w L n = record {
  bound = λ m. bound_in (scope_of w m) n;
  legacy = λ m. legacy_in (scope_of w m) n;
  variant = λ e. find_name n (variants_of w e);
  macro_use = λ id. find_name n (macro_uses_of w id);
  extern = find_name n L;
  builtin = find_name n builtin_words;
}

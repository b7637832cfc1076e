-- What uses, macros and variants change, that are added to a builder.
use Rattle.std.specs.Prelude.{ℕ, [], ◌∷◌, ◌++◌, length}
use Rattle.dm_base.specs.declared.ids.ModuleId.{ModuleId}
use Rattle.dm_base.specs.declared.ids.UseId.{UseId}
use Rattle.dm_base.specs.declared.ids.EnumId.{EnumId}
use Rattle.dm_base.specs.declared.ids.EnumVariantId.{EnumVariantId}
use Rattle.dm_base.specs.declared.item_ids.MacroId.{MacroId}
use Rattle.dm_base.specs.declared.item_ids.MacroId.TheVariants.{Macro2Id, MacroRulesId, ProcMacroId}
use Rattle.dm_base.specs.declared.fields_shape.FieldsShape.{FieldsShape}
use Rattle.dm_base.specs.declared.macros.MacroLoc.{MacroLoc}
use Rattle.dm_base.specs.declared.macros.MacroLoc.TheVariants as loc
use Rattle.dm_base.specs.Names.{Name}
use Rattle.dm_def_map.specs.Variants.{enums_with_variant}
use Rattle.dm_maps.specs.World.{World}

-- the number of the next use, and of the next variant
abbrev pub next_use : World → UseId
next_use w = record { 0 = length w.uses }

abbrev pub next_variant : World → EnumVariantId
next_variant w = record { 0 = length w.variants }

-- the world with a use more in a module
abbrev pub with_use : World → ModuleId → World
with_use w m = record w { uses = w.uses ++ m ∷ [] }

-- the world with a macro more in a module
abbrev pub with_macro : World → ModuleId → MacroLoc → World
with_macro w m l = record w { macros = w.macros ++ (m, l) ∷ [] }

-- the macro of that number that is what stands there
abbrev pub macro_id : MacroLoc → ℕ → MacroId
macro_id (loc.Macro2 e) n = Macro2Id (record { 0 = n })
macro_id (loc.MacroRules e) n = MacroRulesId (record { 0 = n })
macro_id (loc.Proc k) n = ProcMacroId (record { 0 = n })

-- the world with a variant more, of that name and shape
abbrev pub with_variant : World → EnumId → Name → FieldsShape → World
with_variant w e n s = record w {
  enums = enums_with_variant w.enums e n (next_variant w, s);
  variants = w.variants ++ e ∷ [];
}

-- Which function each procedural macro of a crate is, in its def map.
use Rattle.std.specs.Prelude.{false, List, [], ◌∷◌, Option, None, Some}
use Rattle.std.specs.List.{flat_map}
use Rattle.crate_tables.specs.CrateTables.{Table}
use Rattle.crate_tables.specs.DefIndexes.{def_at, key_of}
use Rattle.crate_tables.specs.declared.item_place.DefPlace.{DefPlace}
use Rattle.dm_base.specs.declared.ids.Crate.{Crate}
use Rattle.dm_base.specs.declared.ids.FunctionId.{FunctionId}
use Rattle.dm_base.specs.declared.item_ids.MacroId.{MacroId}
use Rattle.dm_base.specs.declared.item_ids.MacroId.TheVariants as macro
use Rattle.dm_base.specs.declared.item_ids.ModuleDefId.{ModuleDefId}
use Rattle.dm_base.specs.declared.item_ids.ModuleDefId.TheVariants as def
use Rattle.dm_maps.specs.BuildCrateData.{with_crate_settings}
use Rattle.dm_maps.specs.World.{World}
use Rattle.dm_maps.specs.declared.crate_setting.CrateSetting.{CrateSetting}
use Rattle.dm_maps.specs.declared.crate_setting.CrateSetting.TheVariants as sets

abbrev pub macro_and_function : MacroId → FunctionId → List CrateSetting
macro_and_function (macro.ProcMacroId p) f = sets.ProcMacro f p ∷ []
macro_and_function _ f = []

-- a procedural macro and the function that it is know each other
abbrev pub of_defs : ModuleDefId → ModuleDefId → List CrateSetting
of_defs (def.MacroId m) (def.FunctionId f) = macro_and_function m f
of_defs _ _ = []

abbrev pub of_both : ModuleDefId → Option ModuleDefId → List CrateSetting
of_both m None = []
of_both m (Some f) = of_defs m f

-- the function that a procedural macro is is written at the macro's place
abbrev pub pair_of : List DefPlace → DefPlace → List CrateSetting
pair_of ps p = of_both p.def (def_at false ps (key_of p))

-- The def map of a crate tells of each procedural macro which function it is, and back.
abbrev pub with_pairs : Crate → Table → World → World
with_pairs k t w = with_crate_settings w k (flat_map (pair_of t.defs) t.defs)

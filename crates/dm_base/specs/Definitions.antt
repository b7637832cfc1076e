-- Definitions of each namespace, and the conversions between them.
use Rattle.std.specs.Prelude.{◌≡◌}
use Rattle.dm_base.specs.declared.item_ids.ModuleDefId.{ModuleDefId}
use Rattle.dm_base.specs.declared.item_ids.ModuleDefId.TheVariants as defs
use Rattle.dm_base.specs.declared.item_ids.MacroId.{MacroId}

abbrev pub widened_macro : MacroId → ModuleDefId
widened_macro m = defs.MacroId m

pub widened_macro_injective : (x y : MacroId) → widened_macro x ≡ widened_macro y → x ≡ y
widened_macro_injective x y e = cc

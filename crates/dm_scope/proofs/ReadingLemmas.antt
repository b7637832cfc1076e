-- The tests of imports and definitions hold of the same value, and of it alone.
use Rattle.dm_base.specs.contracts.imports.ImportOrExternCrateEq.TheImpl.Laws as import_eq
use Rattle.dm_base.specs.contracts.imports.ImportOrGlobEq.TheImpl.Laws as value_import_eq
use Rattle.dm_base.specs.contracts.item_ids.MacroIdEq.TheImpl.Laws as macro_eq
use Rattle.dm_base.specs.contracts.item_ids.ModuleDefIdEq.TheImpl.Laws as def_eq
use Rattle.dm_base.specs.contracts.value_eq.ImportOrExternCrateValueEq.TheImpl.Laws as import_value
use Rattle.dm_base.specs.contracts.value_eq.ImportOrGlobValueEq.TheImpl.Laws as value_import_value
use Rattle.dm_base.specs.contracts.value_eq.MacroIdValueEq.TheImpl.Laws as macro_value
use Rattle.dm_base.specs.contracts.value_eq.ModuleDefIdValueEq.TheImpl.Laws as def_value
use Rattle.dm_scope.specs.Push.{types_reading, values_reading, macros_reading}
use Rattle.dm_scope.proofs.PushLemmas.{IsReading}

pub types_lawful : IsReading types_reading
types_lawful = record { import_refl = import_eq.laws-law.refl; import_same = import_value.same-law; def_refl = def_eq.laws-law.refl; def_same = def_value.same-law }

pub values_lawful : IsReading values_reading
values_lawful = record { import_refl = value_import_eq.laws-law.refl; import_same = value_import_value.same-law; def_refl = def_eq.laws-law.refl; def_same = def_value.same-law }

pub macros_lawful : IsReading macros_reading
macros_lawful = record { import_refl = import_eq.laws-law.refl; import_same = import_value.same-law; def_refl = macro_eq.laws-law.refl; def_same = macro_value.same-law }

-- What the records of values hold, each import seen as any import.
use Rattle.std.proofs.Common.{◌≡◌, List, [], ◌∷◌, ◌++◌, map, refl}
use Rattle.std.specs.List.{flat_map}
use Rattle.std.proofs.lemmas.List.Sums.{fold-append}
use Rattle.dm_base.specs.declared.imports.ImportOrDef.{ImportOrDef}
use Rattle.dm_base.specs.declared.imports.ImportOrGlob.{ImportOrGlob}
use Rattle.dm_base.specs.declared.imports.ImportOrGlob.TheVariants as narrow
use Rattle.dm_base.specs.Imports.{widened}
use Rattle.dm_maps.specs.ScopeHolds.{step_holds, record_holds, value_record_holds}
use Rattle.dm_maps.specs.Holding.{import_holds, value_import_holds}

widened-holds : (i : ImportOrGlob) → import_holds (widened i) ≡ value_import_holds i
widened-holds (narrow.Glob i) = refl
widened-holds (narrow.Import i) = refl

pub widened-records : (es : List (ImportOrGlob × ImportOrDef)) → flat_map record_holds (map (λ e. (widened e.0, e.1)) es) ≡ flat_map value_record_holds es
widened-records [] = refl
widened-records (e ∷ es) = λ i. (widened-holds e.0 i ++ step_holds e.1) ++ widened-records es i

pub ruleset records = (fold-append, widened-records)

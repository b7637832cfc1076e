-- What a scope holds after a push is what it held, or what the push holds.
use Rattle.std.proofs.Common.{Bool, true, false, cond, List, [], ◌∷◌, ◌++◌, Option, None, Some, map}
use Rattle.std.specs.List.{AllByRecursion, flat_map}
use Rattle.std.specs.Option.{option_map_or, option_and_then}
use Rattle.indexmap.specs.IndexMap.{insert_entry}
use Rattle.dm_maps.proofs.Ids.{ImportOrDef, ImportOrExternCrate, ImportOrGlob, ModuleId, Name, find_name, same_name}
use Rattle.dm_base.specs.declared.imports.ImportOrExternCrate.TheVariants as wide
use Rattle.dm_base.specs.declared.imports.ImportOrGlob.TheVariants as narrow
use Rattle.dm_base.specs.declared.per_ns.Item.{Item}
use Rattle.dm_base.specs.declared.per_ns.PerNs.{PerNs}
use Rattle.dm_base.specs.Imports.{narrowed, target_of, widened}
use Rattle.dm_scope.specs.Shadowing.{Reading, import_of, writes}
use Rattle.dm_scope.specs.Bindings.{Bound, recorded_from, recorded, with_record, stored, bound, bound_after}
use Rattle.dm_scope.specs.Flags.{Flags, Globs, has_flag}
use Rattle.dm_scope.specs.Push.{types_reading, values_reading, macros_reading, scope_after}
use Rattle.dm_scope.specs.Scope.{Scope}
use Rattle.dm_maps.specs.declared.check.held.HeldId.{HeldId}
use Rattle.dm_maps.specs.declared.check.held.HeldId.TheVariants as held
use Rattle.dm_maps.specs.Pushes.{push_holds}
use Rattle.dm_maps.specs.ScopeHolds.{step_holds, record_holds, value_record_holds, records_hold, scope_holds, bindings_hold, types_hold, values_hold, macros_hold, legacies_hold, lists_hold}
use Rattle.dm_maps.specs.Holding.{def_holds, vis_holds, import_holds, value_import_holds, type_holds, value_holds, macro_holds, res_holds}
use Rattle.dm_maps.proofs.AllLemmas.{all-left, all-right, all-append}

module _ (P : HeldId → Type 0) where
  abbrev All : List HeldId → Type 0
  All hs = AllByRecursion P hs

  -- ---- One namespace: its definitions and its imports hold some ids, and so do its items and records.

  module _ {D I : Type 0} (defs : D → List HeldId) (imports : I → List HeldId) where
    abbrev item_holds : Item D I → List HeldId
    item_holds y = (defs y.def ++ vis_holds y.vis) ++ option_map_or imports y.import []

    abbrev items_hold : List (Name × Item D I) → List HeldId
    items_hold es = flat_map item_holds (map (λ e. e.1) es)

    abbrev one_record_holds : I × ImportOrDef → List HeldId
    one_record_holds e = imports e.0 ++ step_holds e.1

    abbrev all_records_hold : List (I × ImportOrDef) → List HeldId
    all_records_hold es = flat_map one_record_holds es

    put-item : (es : List (Name × Item D I)) (n : Name) (x : Item D I) → All (items_hold es) → All (item_holds x) → All (items_hold (insert_entry same_name es n x))
    put-item [] n x h p = all-append P (item_holds x) [] p tt
    put-item (e ∷ es) n x h p = by (same_name n e.0) (put-item es n x rest p)
      where
        rest : All (items_hold es)
        rest = all-right P (item_holds e.1) (items_hold es) h

        by : (b : Bool) → All (items_hold (insert_entry same_name es n x)) → All (items_hold (cond b ((e.0, x) ∷ es) (e ∷ insert_entry same_name es n x)))
        by true more = all-append P (item_holds x) (items_hold es) p rest
        by false more = all-append P (item_holds e.1) (items_hold (insert_entry same_name es n x)) (all-left P (item_holds e.1) (items_hold es) h) more

    put-record : (eq : I → I → Bool) (es : List (I × ImportOrDef)) (i : I) (v : ImportOrDef) → All (all_records_hold es) → All (imports i) → All (step_holds v) → All (all_records_hold (insert_entry eq es i v))
    put-record eq [] i v h k g = all-append P (imports i ++ step_holds v) [] (all-append P (imports i) (step_holds v) k g) tt
    put-record eq (e ∷ es) i v h k g = by (eq i e.0) (put-record eq es i v rest k g)
      where
        rest : All (all_records_hold es)
        rest = all-right P (one_record_holds e) (all_records_hold es) h

        first : All (one_record_holds e)
        first = all-left P (one_record_holds e) (all_records_hold es) h

        by : (b : Bool) → All (all_records_hold (insert_entry eq es i v)) → All (all_records_hold (cond b ((e.0, v) ∷ es) (e ∷ insert_entry eq es i v)))
        by true more = all-append P (imports e.0 ++ step_holds v) (all_records_hold es) (all-append P (imports e.0) (step_holds v) (all-left P (imports e.0) (step_holds e.1) first) g) rest
        by false more = all-append P (one_record_holds e) (all_records_hold (insert_entry eq es i v)) first more

    module _ (r : Reading D I) (import_step : (i : I) → All (imports i) → All (step_holds (target_of (r.widened i)))) (def_step : (d : D) → All (defs d) → All (def_holds (r.widened_def d))) where
      -- what is recorded of an item is its import, or its definition
      recorded-holds : (y : Item D I) → All (item_holds y) → All (step_holds (recorded r y))
      recorded-holds y h = by y.import (all-right P (defs y.def ++ vis_holds y.vis) (option_map_or imports y.import []) h)
        where
          by : (i : Option I) → All (option_map_or imports i []) → All (step_holds (recorded_from r i y.def))
          by None g = def_step y.def (all-left P (defs y.def) (vis_holds y.vis) (all-left P (defs y.def ++ vis_holds y.vis) (option_map_or imports y.import []) h))
          by (Some i) g = import_step i g

      -- the items and the records after a push
      after-holds : (s : Bound D I) (fs : Flags) (m : ModuleId) (n : Name) (x : Option (Item D I)) (by : Option ImportOrExternCrate)
          → All (items_hold s.items) → All (all_records_hold s.records) → All (option_map_or item_holds x []) → All (option_map_or imports (import_of r by) [])
          → All (items_hold (bound_after r s fs m n x by).items) × All (all_records_hold (bound_after r s fs m n x by).records)
      after-holds s fs m n None by items records new import = (items, records)
      after-holds s fs m n (Some y) by items records new import = on (writes r (find_name n s.items) (has_flag fs m n) y (import_of r by))
        where
          put : (i : Option I) → All (option_map_or imports i []) → All (all_records_hold (with_record r s.records i (recorded r y)))
          put None g = records
          put (Some i) g = put-record r.same_import s.records i (recorded r y) records g (recorded-holds y new)

          stored_fine : All (item_holds (stored r y (import_of r by)))
          stored_fine =
              all-append P (defs y.def ++ vis_holds y.vis) (option_map_or imports (import_of r by) [])
              (all-left P (defs y.def ++ vis_holds y.vis) (option_map_or imports y.import []) new) import

          on : (b : Bool) → All (items_hold (cond b (bound r s n y (import_of r by)) s).items) × All (all_records_hold (cond b (bound r s n y (import_of r by)) s).records)
          on true = (put-item s.items n (stored r y (import_of r by)) items stored_fine, put (import_of r by) import)
          on false = (items, records)

  -- what an import stands for when it is recorded is the import of an item, or its definition
  import-step : (i : ImportOrExternCrate) → All (import_holds i) → All (step_holds (target_of i))
  import-step (wide.Glob i) h = h
  import-step (wide.Import i) h = h
  import-step (wide.ExternCrate k) h = tt

  value-step : (i : ImportOrGlob) → All (value_import_holds i) → All (step_holds (target_of (widened i)))
  value-step (narrow.Glob i) h = h
  value-step (narrow.Import i) h = h

  -- the import of a push, as types and macros store it, and as values do
  same-import : (by : Option ImportOrExternCrate) → All (option_map_or import_holds by []) → All (option_map_or import_holds (option_and_then (λ i. Some i) by) [])
  same-import None h = h
  same-import (Some i) h = h

  value-import : (by : Option ImportOrExternCrate) → All (option_map_or import_holds by []) → All (option_map_or value_import_holds (option_and_then narrowed by) [])
  value-import None h = h
  value-import (Some (wide.Glob i)) h = h
  value-import (Some (wide.Import i)) h = h
  value-import (Some (wide.ExternCrate k)) h = tt

  -- ---- The scope.

  module _ (s : Scope) (g : Globs) (m : ModuleId) (n : Name) (x : PerNs) (by : Option ImportOrExternCrate) (held_before : All (scope_holds s)) (pushed : All (push_holds m x by)) where
    abbrev v : Scope
    v = scope_after s g m n x by

    import_fine : All (option_map_or import_holds by [])
    import_fine = all-left P (option_map_or import_holds by []) (res_holds x) pushed.1

    res : All (res_holds x)
    res = all-right P (option_map_or import_holds by []) (res_holds x) pushed.1

    firsts : All (option_map_or type_holds x.types [] ++ option_map_or value_holds x.values [])
    firsts = all-left P (option_map_or type_holds x.types [] ++ option_map_or value_holds x.values []) (option_map_or macro_holds x.macros []) res

    -- what the scope holds beside its bindings and records, which no push changes
    abbrev beside : List HeldId
    beside = legacies_hold s.legacy_macros ++ lists_hold s

    bindings : All (bindings_hold s)
    bindings = all-left P (bindings_hold s) (records_hold s ++ beside) held_before

    after_bindings : All (records_hold s ++ beside)
    after_bindings = all-right P (bindings_hold s) (records_hold s ++ beside) held_before

    records : All (records_hold s)
    records = all-left P (records_hold s) beside after_bindings

    other_bindings : All (values_hold s.values.items ++ macros_hold s.macros.items)
    other_bindings = all-right P (types_hold s.types.items) (values_hold s.values.items ++ macros_hold s.macros.items) bindings

    abbrev other_records_hold : List HeldId
    other_records_hold = flat_map value_record_holds s.values.records ++ flat_map record_holds s.macros.records

    other_records : All other_records_hold
    other_records = all-right P (flat_map record_holds s.types.records) other_records_hold records

    types : All (types_hold v.types.items) × All (flat_map record_holds v.types.records)
    types =
        after-holds def_holds import_holds types_reading import-step (λ d h. h) s.types g.types m n x.types by
        (all-left P (types_hold s.types.items) (values_hold s.values.items ++ macros_hold s.macros.items) bindings)
        (all-left P (flat_map record_holds s.types.records) other_records_hold records)
        (all-left P (option_map_or type_holds x.types []) (option_map_or value_holds x.values []) firsts) (same-import by import_fine)

    values : All (values_hold v.values.items) × All (flat_map value_record_holds v.values.records)
    values =
        after-holds def_holds value_import_holds values_reading value-step (λ d h. h) s.values g.values m n x.values by
        (all-left P (values_hold s.values.items) (macros_hold s.macros.items) other_bindings)
        (all-left P (flat_map value_record_holds s.values.records) (flat_map record_holds s.macros.records) other_records)
        (all-right P (option_map_or type_holds x.types []) (option_map_or value_holds x.values []) firsts) (value-import by import_fine)

    macros : All (macros_hold v.macros.items) × All (flat_map record_holds v.macros.records)
    macros =
        after-holds (λ k. held.Macro k ∷ []) import_holds macros_reading import-step (λ d h. h) s.macros g.macros m n x.macros by
        (all-right P (values_hold s.values.items) (macros_hold s.macros.items) other_bindings)
        (all-right P (flat_map value_record_holds s.values.records) (flat_map record_holds s.macros.records) other_records)
        (all-right P (option_map_or type_holds x.types [] ++ option_map_or value_holds x.values []) (option_map_or macro_holds x.macros []) res) (same-import by import_fine)

    pub scope_after-holds : All (scope_holds (scope_after s g m n x by))
    scope_after-holds =
        all-append P (bindings_hold v) (records_hold v ++ beside)
        (all-append P (types_hold v.types.items) (values_hold v.values.items ++ macros_hold v.macros.items) types.0 (all-append P (values_hold v.values.items) (macros_hold v.macros.items) values.0 macros.0))
        (all-append P (records_hold v) beside
        (all-append P (flat_map record_holds v.types.records) (flat_map value_record_holds v.values.records ++ flat_map record_holds v.macros.records) types.1 (all-append P (flat_map value_record_holds v.values.records) (flat_map record_holds v.macros.records) values.1 macros.1))
        (all-right P (records_hold s) beside after_bindings))

-- Examples of import chains over the records of three modules: equations that compute.
use Rattle.std.specs.Prelude.{◌≡◌, ℕ, false, [], ◌∷◌, None, Some, refl, slice_get}
use Rattle.dm_base.specs.declared.imports.ImportId.{ImportId}
use Rattle.dm_base.specs.declared.imports.ImportOrDef.TheVariants as target
use Rattle.dm_base.specs.declared.imports.ImportOrExternCrate.TheVariants as wide
use Rattle.dm_base.specs.declared.imports.ImportOrGlob.TheVariants as narrow
use Rattle.dm_base.specs.declared.item_ids.AdtId.TheVariants as adt
use Rattle.dm_base.specs.declared.item_ids.ModuleDefId.{ModuleDefId}
use Rattle.dm_base.specs.declared.item_ids.ModuleDefId.TheVariants as def
use Rattle.dm_base.specs.declared.per_ns.Namespace.TheVariants.{Types, Values, Macros}
use Rattle.dm_scope.specs.Chains.{leads, ends, EndsIn}
use Rattle.dm_scope.specs.Scope.{Scope, no_scope}
use Rattle.dm_scope.specs.Tables.{Tables}

abbrev at : ℕ → ℕ → ImportId
at u i = record { use_ = record { 0 = u }; idx = record { 0 = i } }

abbrev struct : ModuleDefId
struct = def.AdtId (adt.StructId (record { 0 = 1 }))

abbrev function : ModuleDefId
function = def.FunctionId (record { 0 = 2 })

-- what two imports of use 0 stand for, one of use 1 and one of use 2: as types, the first as a value
-- too, and the second as a macro
abbrev first : Scope
first = record no_scope {
  types = record { items = []; records = (wide.Import (at 0 0), target.Import (at 1 0)) ∷ (wide.Import (at 0 1), target.Def struct) ∷ [] };
  values = record { items = []; records = (narrow.Import (at 0 0), target.Def function) ∷ [] };
  macros = record { items = []; records = (wide.Import (at 0 1), target.Glob (record { use_ = record { 0 = 2 }; idx = record { 0 = 0 } })) ∷ [] };
}

abbrev second : Scope
second = record no_scope { types = record { items = []; records = (wide.Import (at 1 0), target.Import (at 0 0)) ∷ [] } }

abbrev third : Scope
third = record no_scope { types = record { items = []; records = (wide.Import (at 2 0), target.Import (at 0 1)) ∷ [] } }

-- each use stands in the module of its number
abbrev tables : Tables
tables = record {
  container = λ u. slice_get (record { 0 = 0 } ∷ record { 0 = 1 } ∷ record { 0 = 2 } ∷ []) u.0;
  scopes = first ∷ second ∷ third ∷ [];
  styles = λ m. None;
  prints_raw = λ n. false;
}

-- a cycle in types, which no chain leaves
goes_round : leads Types tables (first, at 0 0) ≡ Some (second, at 1 0)
goes_round = refl

comes_again : leads Types tables (second, at 1 0) ≡ Some (first, at 0 0)
comes_again = refl

ends_nowhere : ends Types (first, at 0 0) ≡ None
ends_nowhere = refl

ends_nowhere_either : ends Types (second, at 1 0) ≡ None
ends_nowhere_either = refl

-- a record that is a definition ends a chain at once
ends_at_once : EndsIn (leads Types tables) (ends Types) (first, at 0 1) struct
ends_at_once = ([], tt, refl)

-- the same import ends in a definition in values
ends_in_values : EndsIn (leads Values tables) (ends Values) (first, at 0 0) function
ends_in_values = ([], tt, refl)

-- one step, into the module of the use
ends_elsewhere : EndsIn (leads Types tables) (ends Types) (third, at 2 0) struct
ends_elsewhere = ((first, at 0 1) ∷ [], (refl, tt), refl)

-- neither a glob nor a missing record leads on
glob_ends : leads Macros tables (first, at 0 1) ≡ None
glob_ends = refl

missing_ends : leads Values tables (first, at 0 1) ≡ None
missing_ends = refl

-- nor does a use that the tables lack, nor an extern crate
abbrev leads_astray : Scope
leads_astray = record no_scope { types = record { items = []; records = (wide.Import (at 0 0), target.Import (at 9 0)) ∷ (wide.Import (at 0 1), target.ExternCrate (record { 0 = 0 })) ∷ [] } }

lacking_ends : leads Types tables (leads_astray, at 0 0) ≡ None
lacking_ends = refl

extern_crate_ends : leads Types tables (leads_astray, at 0 1) ≡ None
extern_crate_ends = refl

extern_crate_is_no_end : ends Types (leads_astray, at 0 1) ≡ None
extern_crate_is_no_end = refl

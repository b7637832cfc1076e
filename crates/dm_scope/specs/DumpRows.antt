-- Examples of dump lines: equations that compute.
use Rattle.std.specs.Prelude.{◌≡◌, [], ◌∷◌, Option, None, Some, refl, codes}
use Rattle.dm_base.specs.Names.{same_name}
use Rattle.dm_base.specs.Styles.{fn_like, attr, derive}
use Rattle.dm_base.specs.declared.imports.ImportOrExternCrate.TheVariants as wide
use Rattle.dm_base.specs.declared.imports.ImportOrGlob.TheVariants as narrow
use Rattle.dm_base.specs.declared.item_ids.AdtId.TheVariants as adt
use Rattle.dm_base.specs.declared.item_ids.MacroId.{MacroId}
use Rattle.dm_base.specs.declared.item_ids.MacroId.TheVariants as «macro»
use Rattle.dm_base.specs.declared.item_ids.ModuleDefId.{ModuleDefId}
use Rattle.dm_base.specs.declared.item_ids.ModuleDefId.TheVariants as def
use Rattle.dm_base.specs.declared.macros.MacroCallStyles.{MacroCallStyles}
use Rattle.dm_base.specs.declared.visibility.Visibility.TheVariants.{Public}
use Rattle.dm_scope.specs.Dumps.{lines, style_marks}
use Rattle.dm_scope.specs.Scope.{Scope, no_scope}
use Rattle.dm_scope.specs.Tables.{Tables}

-- `macro_rules!` macros are called as functions, procedural ones in a derive; `type` is raw
abbrev styles : MacroId → Option MacroCallStyles
styles («macro».MacroRulesId m) = Some fn_like
styles («macro».ProcMacroId m) = Some derive
styles m = None

abbrev tables : Tables
tables = record { container = λ u. None; scopes = []; styles = styles; prints_raw = λ n. same_name n (codes "type") }

abbrev rules : MacroId
rules = «macro».MacroRulesId (record { 0 = 0 })

abbrev proc : MacroId
proc = «macro».ProcMacroId (record { 0 = 1 })

abbrev struct : ModuleDefId
struct = def.AdtId (adt.StructId (record { 0 = 0 }))

-- a type and a value by a glob, and a name that no import could resolve
abbrev by_glob : Scope
by_glob = record no_scope {
  types = record { items = (codes "S", record { def = struct; vis = Public; import = Some (wide.Glob (record { use_ = record { 0 = 0 }; idx = record { 0 = 0 } })) }) ∷ []; records = [] };
  values = record { items = (codes "S", record { def = struct; vis = Public; import = Some (narrow.Glob (record { use_ = record { 0 = 0 }; idx = record { 0 = 0 } })) }) ∷ []; records = [] };
  unresolved = codes "x" ∷ [];
}

type_and_value : lines tables by_glob (codes "S" ∷ codes "x" ∷ []) [] ≡ codes "- S : type (glob) value (glob)\n- x : _\n"
type_and_value = refl

-- a macro of an extern crate under a raw name, two legacy macros of one name, and a trait that was
-- imported without a name
abbrev with_macros : Scope
with_macros = record no_scope {
  macros = record { items = (codes "type", record { def = proc; vis = Public; import = Some (wide.ExternCrate (record { 0 = 2 })) }) ∷ []; records = [] };
  legacy_macros = (codes "m", rules ∷ proc ∷ []) ∷ [];
  unnamed_traits = (record { 0 = 3 }, Public, Some (record { use_ = record { 0 = 0 }; idx = record { 0 = 0 } })) ∷ [];
}

macros_and_traits : lines tables with_macros (codes "type" ∷ []) (codes "m" ∷ []) ≡ codes "- _ : type (import)\n- r#type : macro# (extern)\n- (legacy) m : macro! macro#\n"
macros_and_traits = refl

-- both marks, in this order
both_marks : style_marks (record { 0 = 7 }) ≡ codes "!#"
both_marks = refl

attribute_mark : style_marks attr ≡ codes "#"
attribute_mark = refl

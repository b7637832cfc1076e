-- How answers are printed.
use Rattle.std.specs.Prelude.{ℕ, List, ◌++◌, Option, Some, None, Bool, true, false, codes}
use Rattle.std.specs.Option.{option_map}
use Rattle.std.specs.Fmt.{decimal}
use Rattle.dm_base.specs.declared.item_ids.AdtId.{AdtId}
use Rattle.dm_base.specs.declared.item_ids.AdtId.TheVariants as adt
use Rattle.dm_base.specs.declared.item_ids.MacroId.{MacroId}
use Rattle.dm_base.specs.declared.item_ids.MacroId.TheVariants as «macro»
use Rattle.dm_base.specs.declared.item_ids.ModuleDefId.{ModuleDefId}
use Rattle.dm_base.specs.declared.item_ids.ModuleDefId.TheVariants as def
use Rattle.dm_base.specs.declared.imports.ImportOrExternCrate.{ImportOrExternCrate}
use Rattle.dm_base.specs.declared.imports.ImportOrExternCrate.TheVariants as import
use Rattle.dm_base.specs.declared.imports.ImportOrGlob.{ImportOrGlob}
use Rattle.dm_base.specs.declared.per_ns.Item.{Item}
use Rattle.dm_base.specs.declared.per_ns.PerNs.{PerNs}
use Rattle.dm_base.specs.declared.visibility.Visibility.{Visibility}
use Rattle.dm_base.specs.declared.visibility.Visibility.TheVariants.{Module, PubCrate, Public}
use Rattle.dm_base.specs.declared.visibility.VisibilityExplicitness.{VisibilityExplicitness}
use Rattle.dm_base.specs.declared.visibility.VisibilityExplicitness.TheVariants.{Explicit, Implicit}
use Rattle.dm_base.specs.Builtins.{builtin_word}
use Rattle.dm_base.specs.Imports.{widened}
use Rattle.hir_def_map.specs.declared.path_resolution.result.ReachedFixedPoint.{ReachedFixedPoint}
use Rattle.hir_def_map.specs.declared.path_resolution.result.ReachedFixedPoint.TheVariants.{Yes, No}
use Rattle.hir_def_map.specs.declared.path_resolution.result.ResolvePathResult.{ResolvePathResult}
use Rattle.hir_def_map.specs.declared.path_resolution.result.ResolvePathResultPrefixInfo.{ResolvePathResultPrefixInfo}

abbrev pub macro_text : MacroId → List ℕ
macro_text («macro».Macro2Id m) = codes "macro2:" ++ decimal m.0
macro_text («macro».MacroRulesId m) = codes "rules:" ++ decimal m.0
macro_text («macro».ProcMacroId m) = codes "proc:" ++ decimal m.0

abbrev pub adt_text : AdtId → List ℕ
adt_text (adt.StructId a) = codes "struct:" ++ decimal a.0
adt_text (adt.UnionId a) = codes "union:" ++ decimal a.0
adt_text (adt.EnumId a) = codes "enum:" ++ decimal a.0

-- the kind of a definition, a colon, and its number or the name of the builtin type
abbrev pub def_text : ModuleDefId → List ℕ
def_text (def.ModuleId m) = codes "mod:" ++ decimal m.0
def_text (def.FunctionId f) = codes "fn:" ++ decimal f.0
def_text (def.AdtId a) = adt_text a
def_text (def.EnumVariantId v) = codes "variant:" ++ decimal v.0
def_text (def.ConstId c) = codes "const:" ++ decimal c.0
def_text (def.StaticId s) = codes "static:" ++ decimal s.0
def_text (def.TraitId t) = codes "trait:" ++ decimal t.0
def_text (def.TypeAliasId t) = codes "type:" ++ decimal t.0
def_text (def.BuiltinType b) = codes "builtin:" ++ builtin_word b
def_text (def.MacroId m) = macro_text m

abbrev pub explicitness_text : VisibilityExplicitness → List ℕ
explicitness_text Explicit = codes ":explicit"
explicitness_text Implicit = codes ":implicit"

abbrev pub visibility_text : Visibility → List ℕ
visibility_text (Module m e) = codes "in:" ++ decimal m.0 ++ explicitness_text e
visibility_text (PubCrate k) = codes "crate:" ++ decimal k.0
visibility_text Public = codes "pub"

abbrev pub import_text : Option ImportOrExternCrate → List ℕ
import_text None = codes "none"
import_text (Some (import.Import i)) = codes "import:" ++ decimal i.use_.0 ++ codes ":" ++ decimal i.idx.0
import_text (Some (import.Glob i)) = codes "glob:" ++ decimal i.use_.0 ++ codes ":" ++ decimal i.idx.0
import_text (Some (import.ExternCrate k)) = codes "extern:" ++ decimal k.0

-- the definition, the visibility and the import of an item; a bar where there is none
abbrev pub item_text : Option (Item ModuleDefId ImportOrExternCrate) → List ℕ
item_text None = codes "-"
item_text (Some i) = def_text i.def ++ codes "/" ++ visibility_text i.vis ++ codes "/" ++ import_text i.import

-- a value's import among those of types
abbrev pub widened_value : Item ModuleDefId ImportOrGlob → Item ModuleDefId ImportOrExternCrate
widened_value i = record { def = i.def; vis = i.vis; import = option_map widened i.import }

-- a macro among the definitions of types
abbrev pub widened_macro : Item MacroId ImportOrExternCrate → Item ModuleDefId ImportOrExternCrate
widened_macro i = record { def = def.MacroId i.def; vis = i.vis; import = i.import }

-- the items of types, values and macros, with one space between
abbrev pub items_text : PerNs → List ℕ
items_text p =
    item_text p.types ++ codes " " ++ item_text (option_map widened_value p.values) ++ codes " "
    ++ item_text (option_map widened_macro p.macros)

abbrev pub status_text : ReachedFixedPoint → List ℕ
status_text Yes = codes "yes"
status_text No = codes "no"

abbrev pub index_text : Option ℕ → List ℕ
index_text None = codes "-"
index_text (Some i) = decimal i

-- by another crate, by an enum: a letter for each; a bar for neither
abbrev pub flags : Bool → Bool → List ℕ
flags true true = codes "de"
flags true false = codes "d"
flags false true = codes "e"
flags false false = codes "-"

abbrev pub flags_text : ResolvePathResultPrefixInfo → List ℕ
flags_text f = flags f.differing_crate f.enum_variant

-- the six words of an answer, with one space between
abbrev pub answer_text : ResolvePathResult → List ℕ
answer_text a =
    items_text a.resolved_def ++ codes " " ++ status_text a.reached_fixedpoint ++ codes " " ++ index_text a.segment_index
    ++ codes " " ++ flags_text a.prefix_info

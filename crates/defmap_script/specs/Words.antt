-- Grammar of the words of a script. A word of another form is parsed to none.
use Rattle.std.specs.Prelude.{ℕ, ◌==◌, ◌&&◌, nat_lt, List, [], ◌∷◌, Option, Some, None, if◌then◌else◌, length, codes}
use Rattle.std.specs.Char.{is_ascii_digit}
use Rattle.std.specs.List.{list_all}
use Rattle.std.specs.Option.{option_map, option_and_then, option_or}
use Rattle.std.specs.Str.Parse.{digits_value}
use Rattle.dm_base.specs.Names.{Name, same_name, find_name}
use Rattle.dm_base.specs.Builtins.{builtin_words}
use Rattle.dm_base.specs.Imports.{narrowed}
use Rattle.dm_base.specs.declared.ids.UseId.{UseId}
use Rattle.dm_base.specs.declared.ids.UseTreeIdx.{UseTreeIdx}
use Rattle.dm_base.specs.declared.item_ids.AdtId.TheVariants as adt
use Rattle.dm_base.specs.declared.item_ids.ItemKind.{ItemKind}
use Rattle.dm_base.specs.declared.item_ids.ItemKind.TheVariants as item
use Rattle.dm_base.specs.declared.item_ids.MacroId.{MacroId}
use Rattle.dm_base.specs.declared.item_ids.MacroId.TheVariants as «macro»
use Rattle.dm_base.specs.declared.item_ids.ModuleDefId.{ModuleDefId}
use Rattle.dm_base.specs.declared.item_ids.ModuleDefId.TheVariants as def
use Rattle.dm_base.specs.declared.imports.ImportOrExternCrate.{ImportOrExternCrate}
use Rattle.dm_base.specs.declared.imports.ImportOrExternCrate.TheVariants as import
use Rattle.dm_base.specs.declared.imports.ImportOrGlob.{ImportOrGlob}
use Rattle.dm_base.specs.declared.mod_path.PathKind.{PathKind}
use Rattle.dm_base.specs.declared.mod_path.PathKind.TheVariants as path
use Rattle.dm_base.specs.declared.per_ns.Item.{Item}
use Rattle.dm_base.specs.declared.edition.Edition.{Edition}
use Rattle.dm_base.specs.declared.edition.Edition.TheVariants as edition
use Rattle.dm_base.specs.declared.visibility.Visibility.{Visibility}
use Rattle.dm_base.specs.declared.visibility.Visibility.TheVariants as seen
use Rattle.dm_base.specs.declared.visibility.VisibilityExplicitness.{VisibilityExplicitness}
use Rattle.dm_base.specs.declared.visibility.VisibilityExplicitness.TheVariants as how
use Rattle.dm_def_map.specs.declared.modules.modes.BuiltinShadowMode.{BuiltinShadowMode}
use Rattle.dm_def_map.specs.declared.modules.modes.BuiltinShadowMode.TheVariants as shadow
use Rattle.dm_def_map.specs.declared.modules.modes.MacroSubNs.{MacroSubNs}
use Rattle.dm_def_map.specs.declared.modules.modes.MacroSubNs.TheVariants as expected
use Rattle.hir_def_map.specs.declared.path_resolution.result.ResolveMode.{ResolveMode}
use Rattle.hir_def_map.specs.declared.path_resolution.result.ResolveMode.TheVariants as mode

-- decimal digits, one at least, of a value below 2^32; zeros may lead
abbrev pub number : Name → Option ℕ
number w = if list_all is_ascii_digit w && (nat_lt 0 (length w) && nat_lt (digits_value 10 w) 4294967296) then Some (digits_value 10 w) else None

-- the parts before and behind the first of a byte
abbrev pub cut : ℕ → List ℕ → Option (List ℕ × List ℕ)
cut c [] = None
cut c (x ∷ xs) = if x == c then Some ([], xs) else option_map (λ p. (x ∷ p.0, p.1)) (cut c xs)

-- the parts round the first colon, and round the first slash
abbrev pub at_colon : Name → Option (Name × Name)
at_colon w = cut 58 w

abbrev pub at_slash : Name → Option (Name × Name)
at_slash w = cut 47 w

-- a word of two parts round a colon: the first names a form, and the second is read by it
abbrev pub Forms : Type 0 → Type 0
Forms A = List (Name × (Name → Option A))

abbrev pub read_by : {A : Type 0} → Forms A → Name × Name → Option A
read_by forms p = option_and_then (λ form. form p.1) (find_name p.0 forms)

abbrev pub by_form : {A : Type 0} → Forms A → Name → Option A
by_form forms w = option_and_then (read_by forms) (at_colon w)

abbrev pub editions : List (Name × Edition)
editions =
    (codes "2015", edition.Edition2015) ∷ (codes "2018", edition.Edition2018)
    ∷ (codes "2021", edition.Edition2021) ∷ (codes "2024", edition.Edition2024) ∷ []

abbrev pub item_kinds : List (Name × ItemKind)
item_kinds =
    (codes "fn", item.Function) ∷ (codes "struct", item.Struct) ∷ (codes "union", item.Union) ∷ (codes "enum", item.Enum)
    ∷ (codes "const", item.Const) ∷ (codes "static", item.Static) ∷ (codes "trait", item.Trait) ∷ (codes "type", item.TypeAlias) ∷ []

-- `macro2:N`, `rules:N` or `proc:N`
abbrev pub macro_forms : Forms MacroId
macro_forms =
    (codes "macro2", λ w. option_map (λ n. «macro».Macro2Id (record { 0 = n })) (number w))
    ∷ (codes "rules", λ w. option_map (λ n. «macro».MacroRulesId (record { 0 = n })) (number w))
    ∷ (codes "proc", λ w. option_map (λ n. «macro».ProcMacroId (record { 0 = n })) (number w)) ∷ []

-- whether a visibility was written
abbrev pub explicitness_words : List (Name × VisibilityExplicitness)
explicitness_words = (codes "explicit", how.Explicit) ∷ (codes "implicit", how.Implicit) ∷ []

-- `mod:N`, an item kind and its number, `variant:N`, `builtin:` and a builtin type, or a macro
abbrev pub definition_forms : Forms ModuleDefId
definition_forms =
    (codes "mod", λ w. option_map (λ n. def.ModuleId (record { 0 = n })) (number w))
    ∷ (codes "fn", λ w. option_map (λ n. def.FunctionId (record { 0 = n })) (number w))
    ∷ (codes "struct", λ w. option_map (λ n. def.AdtId (adt.StructId (record { 0 = n }))) (number w))
    ∷ (codes "union", λ w. option_map (λ n. def.AdtId (adt.UnionId (record { 0 = n }))) (number w))
    ∷ (codes "enum", λ w. option_map (λ n. def.AdtId (adt.EnumId (record { 0 = n }))) (number w))
    ∷ (codes "const", λ w. option_map (λ n. def.ConstId (record { 0 = n })) (number w))
    ∷ (codes "static", λ w. option_map (λ n. def.StaticId (record { 0 = n })) (number w))
    ∷ (codes "trait", λ w. option_map (λ n. def.TraitId (record { 0 = n })) (number w))
    ∷ (codes "type", λ w. option_map (λ n. def.TypeAliasId (record { 0 = n })) (number w))
    ∷ (codes "variant", λ w. option_map (λ n. def.EnumVariantId (record { 0 = n })) (number w))
    ∷ (codes "builtin", λ w. option_map (λ b. def.BuiltinType b) (find_name w builtin_words))
    ∷ (codes "macro2", λ w. option_map (λ n. def.MacroId («macro».Macro2Id (record { 0 = n }))) (number w))
    ∷ (codes "rules", λ w. option_map (λ n. def.MacroId («macro».MacroRulesId (record { 0 = n }))) (number w))
    ∷ (codes "proc", λ w. option_map (λ n. def.MacroId («macro».ProcMacroId (record { 0 = n }))) (number w)) ∷ []

abbrev pub definition : Name → Option ModuleDefId
definition w = by_form definition_forms w

-- a number and `explicit` or `implicit`
abbrev pub within : Name × Name → Option Visibility
within p = option_and_then (λ n. option_map (λ e. seen.Module (record { 0 = n }) e) (find_name p.1 explicitness_words)) (number p.0)

abbrev pub visibility_forms : Forms Visibility
visibility_forms =
    (codes "crate", λ w. option_map (λ n. seen.PubCrate (record { 0 = n })) (number w))
    ∷ (codes "in", λ w. option_and_then within (at_colon w)) ∷ []

-- `pub`, `crate:N`, `in:N:explicit` or `in:N:implicit`
abbrev pub visibility : Name → Option Visibility
visibility w = if same_name w (codes "pub") then Some seen.Public else by_form visibility_forms w

-- `U:I`, a use and a place in its tree
abbrev pub use_leaf : Name → Option (UseId × UseTreeIdx)
use_leaf w = option_and_then (λ p. option_and_then (λ u. option_map (λ i. (record { 0 = u }, record { 0 = i })) (number p.1)) (number p.0)) (at_colon w)

abbrev pub import_forms : Forms ImportOrExternCrate
import_forms =
    (codes "extern", λ w. option_map (λ n. import.ExternCrate (record { 0 = n })) (number w))
    ∷ (codes "import", λ w. option_map (λ l. import.Import (record { use_ = l.0; idx = l.1 })) (use_leaf w))
    ∷ (codes "glob", λ w. option_map (λ l. import.Glob (record { use_ = l.0; idx = l.1 })) (use_leaf w)) ∷ []

-- `none`, `import:U:I`, `glob:U:I` or `extern:N`
abbrev pub import_word : Name → Option (Option ImportOrExternCrate)
import_word w = if same_name w (codes "none") then Some None else option_map (λ i. Some i) (by_form import_forms w)

-- a definition, a visibility and an import
abbrev pub item_parts : Name → Name → Name → Option (Item ModuleDefId ImportOrExternCrate)
item_parts d v i =
    option_and_then (λ def. option_and_then (λ vis. option_map (λ import. record { def = def; vis = vis; import = import }) (import_word i))
    (visibility v)) (definition d)

-- `-` for none, or a definition, a visibility and an import with slashes between
abbrev pub types_word : Name → Option (Option (Item ModuleDefId ImportOrExternCrate))
types_word w =
    if same_name w (codes "-") then Some None
    else option_and_then (λ p. option_and_then (λ q. option_map (λ item. Some item) (item_parts p.0 q.0 q.1)) (at_slash p.1)) (at_slash w)

-- a value's import is none, a glob or a named import
abbrev pub value_import : Option ImportOrExternCrate → Option (Option ImportOrGlob)
value_import None = Some None
value_import (Some i) = option_map (λ narrow. Some narrow) (narrowed i)

abbrev pub as_value : Option (Item ModuleDefId ImportOrExternCrate) → Option (Option (Item ModuleDefId ImportOrGlob))
as_value None = Some None
as_value (Some i) = option_map (λ import. Some (record { def = i.def; vis = i.vis; import = import })) (value_import i.import)

-- as in types, but no `extern crate` item imports a value
abbrev pub values_word : Name → Option (Option (Item ModuleDefId ImportOrGlob))
values_word w = option_and_then as_value (types_word w)

abbrev pub macro_of : ModuleDefId → Option MacroId
macro_of (def.ModuleId m) = None
macro_of (def.FunctionId f) = None
macro_of (def.AdtId a) = None
macro_of (def.EnumVariantId v) = None
macro_of (def.ConstId c) = None
macro_of (def.StaticId s) = None
macro_of (def.TraitId t) = None
macro_of (def.TypeAliasId t) = None
macro_of (def.BuiltinType b) = None
macro_of (def.MacroId m) = Some m

abbrev pub as_macro : Option (Item ModuleDefId ImportOrExternCrate) → Option (Option (Item MacroId ImportOrExternCrate))
as_macro None = Some None
as_macro (Some i) = option_map (λ m. Some (record { def = m; vis = i.vis; import = i.import })) (macro_of i.def)

-- as in types, but the definition is a macro
abbrev pub macros_word : Name → Option (Option (Item MacroId ImportOrExternCrate))
macros_word w = option_and_then as_macro (types_word w)

abbrev pub path_kinds : List (Name × PathKind)
path_kinds = (codes "plain", path.Plain) ∷ (codes "abs", path.Abs) ∷ (codes "crate", path.Crate) ∷ []

abbrev pub path_kind_forms : Forms PathKind
path_kind_forms =
    (codes "dollar", λ w. option_map (λ n. path.DollarCrate (record { 0 = n })) (number w))
    ∷ (codes "super", λ w. option_and_then (λ n. if nat_lt n 256 then Some (path.Super n) else None) (number w)) ∷ []

-- `plain`, `abs`, `crate`, `dollar:N`, or `super:K` with K at most 255
abbrev pub path_kind : Name → Option PathKind
path_kind w = option_or (find_name w path_kinds) (by_form path_kind_forms w)

abbrev pub modes : List (Name × ResolveMode)
modes = (codes "import", mode.Import) ∷ (codes "other", mode.Other) ∷ []

abbrev pub shadow_modes : List (Name × BuiltinShadowMode)
shadow_modes = (codes "module", shadow.Module) ∷ (codes "other", shadow.Other) ∷ []

abbrev pub expectations : List (Name × Option MacroSubNs)
expectations = (codes "any", None) ∷ (codes "bang", Some expected.Bang) ∷ (codes "attr", Some expected.Attr) ∷ []

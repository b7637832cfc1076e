-- The dump of a scope: a line for each name, with what it is bound to and how it came there.
use Rattle.std.specs.Prelude.{◌≡◌, ◌++◌, ◌||◌, ℕ, List, [], map, Option, None, Some, Result, String, OnOk, string_bytes, unwrap_or, if◌then◌else◌, codes}
use Rattle.std.specs.List.{flat_map}
use Rattle.std.specs.Option.{option_map}
use Rattle.dm_base.specs.declared.ids.TraitId.{TraitId}
use Rattle.dm_base.specs.Imports.{widened}
use Rattle.dm_base.specs.Names.{Name, find_name}
use Rattle.dm_base.specs.PerNs.{is_empty}
use Rattle.dm_base.specs.Styles.{has_styles, fn_like, attr, derive}
use Rattle.dm_base.specs.declared.imports.ImportId.{ImportId}
use Rattle.dm_base.specs.declared.imports.ImportOrExternCrate.{ImportOrExternCrate}
use Rattle.dm_base.specs.declared.imports.ImportOrExternCrate.TheVariants.{Import, Glob, ExternCrate}
use Rattle.dm_base.specs.declared.imports.ImportOrGlob.{ImportOrGlob}
use Rattle.dm_base.specs.declared.item_ids.MacroId.{MacroId}
use Rattle.dm_base.specs.declared.item_ids.ModuleDefId.{ModuleDefId}
use Rattle.dm_base.specs.declared.macros.MacroCallStyles.{MacroCallStyles}
use Rattle.dm_base.specs.declared.per_ns.Item.{Item}
use Rattle.dm_base.specs.declared.per_ns.PerNs.{PerNs}
use Rattle.dm_base.specs.declared.visibility.Visibility.{Visibility}
use Rattle.dm_scope.specs.Scope.{Scope, bound_in}
use Rattle.dm_scope.specs.Sorted.{AreInOrder, AreNames, unnamed_type}
use Rattle.dm_scope.specs.Tables.{Tables, no_style}

abbrev pub Text : Type 0
Text = List ℕ

-- what a call adds to a text that goes through
abbrev pub Appends : {Z A E : Type 0} → String Z → String Z → Text → Result A E → Type 0
Appends old new added result = OnOk result (string_bytes new ≡ string_bytes old ++ added)

-- the mark of an import; what no import brought has none
abbrev pub mark : Option ImportOrExternCrate → Text
mark None = []
mark (Some (Import i)) = codes " (import)"
mark (Some (Glob g)) = codes " (glob)"
mark (Some (ExternCrate k)) = codes " (extern)"

-- how a macro may be called: as `name!(..)`; as an attribute, or in a `derive`
abbrev pub style_marks : MacroCallStyles → Text
style_marks s = (if has_styles s fn_like then codes "!" else []) ++ (if has_styles s attr || has_styles s derive then codes "#" else [])

-- a macro, with how it may be called
abbrev pub macro_word : Tables → MacroId → Text
macro_word t m = codes " macro" ++ style_marks (unwrap_or (t.styles m) no_style)

-- what a name is bound to, namespace by namespace, each with the mark of its import
abbrev pub type_text : Option (Item ModuleDefId ImportOrExternCrate) → Text
type_text None = []
type_text (Some x) = codes " type" ++ mark x.import

abbrev pub value_text : Option (Item ModuleDefId ImportOrGlob) → Text
value_text None = []
value_text (Some x) = codes " value" ++ mark (option_map widened x.import)

abbrev pub macro_text : Tables → Option (Item MacroId ImportOrExternCrate) → Text
macro_text t None = []
macro_text t (Some x) = macro_word t x.def ++ mark x.import

-- an underscore where it is bound to nothing
abbrev pub bound_text : Tables → PerNs → Text
bound_text t x = type_text x.types ++ value_text x.values ++ macro_text t x.macros ++ (if is_empty x then codes " _" else [])

-- a name as it is written
abbrev pub name_text : Tables → Name → Text
name_text t n = (if t.prints_raw n then codes "r#" else []) ++ n

-- the line of a trait that was imported without a name, and of a name
abbrev pub unnamed_line : Tables → TraitId × Visibility × Option ImportId → Text
unnamed_line t e = codes "- _ :" ++ bound_text t (unnamed_type e) ++ codes "\n"

abbrev pub name_line : Tables → Scope → Name → Text
name_line t s n = codes "- " ++ name_text t n ++ codes " :" ++ bound_text t (bound_in s n) ++ codes "\n"

-- the legacy macros of a name, in order of definition, and their line
abbrev pub legacies : Scope → Name → List MacroId
legacies s n = unwrap_or (find_name n s.legacy_macros) []

abbrev pub legacy_line : Tables → Scope → Name → Text
legacy_line t s n = codes "- (legacy) " ++ name_text t n ++ codes " :" ++ flat_map (macro_word t) (legacies s n) ++ codes "\n"

-- the lines of a scope, the names and those of legacy macros in the order of two lists
abbrev pub lines : Tables → Scope → List Name → List Name → Text
lines t s names legacy = flat_map (unnamed_line t) s.unnamed_traits ++ flat_map (name_line t s) names ++ flat_map (legacy_line t s) legacy

-- The dump of a scope: traits that were imported without a name, in order of import, then the names
-- that are bound or unresolved, and then those of legacy macros, each in order of their bytes.
pub record IsDump (t : Tables) (s : Scope) (text : Text) : Type 0 where
  pub names : List Name
  pub legacy : List Name
  pub names_in_order : AreNames names s
  pub legacy_in_order : AreInOrder legacy (map (λ e. e.0) s.legacy_macros)
  pub is : text ≡ lines t s names legacy

-- The names that items take, each in a namespace of a module.
use Rattle.std.specs.Prelude.{◌&&◌, ◌++◌, ◌==◌, ℕ, Bool, true, List, [], ◌∷◌, Option, None, Some, fold, map, if◌then◌else◌}
use Rattle.std.specs.List.{list_any}
use Rattle.def_diagnostics.specs.DeclaredMods.{has}
use Rattle.def_diagnostics.specs.declared.taken_names.TakenName.{TakenName}
use Rattle.crate_items.specs.DeclaredMacros.{is_macro_exported}
use Rattle.crate_items.specs.declared.items.declared_item.DeclaredItem.{DeclaredItem}
use Rattle.crate_items.specs.declared.macros.procedural_macro.ProceduralMacro.{ProceduralMacro}
use Rattle.crate_items.specs.Files.{SourceFile}
use Rattle.crate_items.specs.Modules.{Listing}
use Rattle.crate_items.specs.ProceduralMacros.{procedural_macro}
use Rattle.dm_base.specs.declared.per_ns.Namespace.{Namespace}
use Rattle.dm_base.specs.declared.per_ns.Namespace.TheVariants.{Macros, Types, Values}
use Rattle.dm_base.specs.Kinds.{has_constructor}
use Rattle.dm_base.specs.Names.{Name, same_name}
use Rattle.dm_base.specs.declared.fields_shape.FieldsShape.{FieldsShape}
use Rattle.indexmap.specs.IndexSet.{insert_key}
use Rattle.item_tree.specs.declared.items.item_kind.ItemKind.{ItemKind}
use Rattle.item_tree.specs.declared.items.item_kind.ItemKind.TheVariants as item

-- a struct with a constructor is a type and a value
abbrev pub of_struct : FieldsShape → List Namespace
of_struct shape = if has_constructor shape then Types ∷ Values ∷ [] else Types ∷ []

-- in which namespaces of its module an item takes its name
abbrev pub namespaces : ItemKind → FieldsShape → List Namespace
namespaces item.Struct shape = of_struct shape
namespaces item.Union shape = Types ∷ []
namespaces item.Enum shape = Types ∷ []
namespaces item.Trait shape = Types ∷ []
namespaces item.TypeAlias shape = Types ∷ []
namespaces item.Mod shape = Types ∷ []
namespaces item.ExternCrate shape = Types ∷ []
namespaces item.Function shape = Values ∷ []
namespaces item.Const shape = Values ∷ []
namespaces item.Static shape = Values ∷ []
namespaces item.Macro2 shape = Macros ∷ []
namespaces _ shape = []

abbrev pub taken_in : ℕ → Name → Namespace → TakenName
taken_in m n ns = record { «module» = m; namespace = ns; name = n }

-- a macro by `macro_rules!` has a textual scope, and may be defined again; an exported one is a macro of the root, the
-- module of number 0
abbrev pub names_by_kind : DeclaredItem → ItemKind → Name → List TakenName
names_by_kind x item.MacroRules n = taken_in 0 n Macros ∷ []
names_by_kind x kind n = map (taken_in x.«module» n) (namespaces kind x.shape)

-- a `mod` item of a file that `cfg` takes away takes no name
abbrev pub takes_name : Listing → List (ℕ × ℕ) → DeclaredItem → ItemKind → Bool
takes_name l mods x item.Mod = has mods x
takes_name l mods x item.MacroRules = is_macro_exported l x
takes_name l mods x _ = true

abbrev pub names_if : Bool → DeclaredItem → Option Name → List TakenName
names_if takes x None = []
names_if takes x (Some n) = if takes then names_by_kind x x.kind n else []

-- a procedural macro takes its name, which a derive has in its attribute, among the macros
abbrev pub name_of_macro : ℕ → Option ProceduralMacro → List TakenName
name_of_macro m None = []
name_of_macro m (Some p) = taken_in m p.name Macros ∷ []

-- the names that an item takes
abbrev pub names_of : Listing → List SourceFile → List (ℕ × ℕ) → DeclaredItem → List TakenName
names_of l files mods x =
    names_if (takes_name l mods x x.kind) x x.name ++ name_of_macro x.«module» (procedural_macro l files x)

abbrev pub namespace_place : Namespace → ℕ
namespace_place Types = 0
namespace_place Values = 1
namespace_place Macros = 2

abbrev pub same_taken : TakenName → TakenName → Bool
same_taken a b =
    (a.«module» == b.«module») && (namespace_place a.namespace == namespace_place b.namespace) && same_name a.name b.name

-- with one more, unless it is among them
abbrev pub with_name : List TakenName → TakenName → List TakenName
with_name taken n = insert_key same_taken taken n

-- a name is among those that are taken
abbrev pub is_taken : List TakenName → TakenName → Bool
is_taken taken n = list_any (same_taken n) taken

-- What the path of an import or a glob means in def maps, as they are.
use Rattle.std.specs.Prelude.{◌&&◌, Bool, true, false, not, List, [], ◌∷◌, Option, Some, None, if◌then◌else◌, slice_get}
use Rattle.std.specs.Option.{option_and_then, option_map, option_map_or, option_or}
use Rattle.dm_base.specs.declared.fields_shape.FieldsShape.{FieldsShape}
use Rattle.dm_base.specs.declared.fields_shape.FieldsShape.TheVariants as shape
use Rattle.dm_base.specs.declared.ids.Crate.{Crate}
use Rattle.dm_base.specs.declared.ids.EnumId.{EnumId}
use Rattle.dm_base.specs.declared.ids.EnumVariantId.{EnumVariantId}
use Rattle.dm_base.specs.declared.ids.ExternCrateId.{ExternCrateId}
use Rattle.dm_base.specs.declared.ids.ModuleId.{ModuleId}
use Rattle.dm_base.specs.declared.imports.ImportId.{ImportId}
use Rattle.dm_base.specs.contracts.imports.ImportIdPartialEq.TheImpl as import_eq
use Rattle.dm_base.specs.declared.item_ids.AdtId.TheVariants as adt
use Rattle.dm_base.specs.declared.item_ids.MacroId.{MacroId}
use Rattle.dm_base.specs.declared.item_ids.ModuleDefId.{ModuleDefId}
use Rattle.dm_base.specs.declared.item_ids.ModuleDefId.TheVariants as def
use Rattle.dm_base.specs.declared.macros.MacroExpander.{MacroExpander}
use Rattle.dm_base.specs.declared.macros.MacroExpander.TheVariants as expander
use Rattle.dm_base.specs.declared.macros.MacroLoc.{MacroLoc}
use Rattle.dm_base.specs.declared.macros.MacroLoc.TheVariants as loc
use Rattle.dm_base.specs.declared.mod_path.PathKind.TheVariants as kind
use Rattle.dm_base.specs.declared.per_ns.Namespace.{Namespace}
use Rattle.dm_base.specs.declared.per_ns.Namespace.TheVariants.{Types, Values, Macros}
use Rattle.dm_base.specs.declared.visibility.Visibility.{Visibility}
use Rattle.dm_base.specs.declared.visibility.Visibility.TheVariants.{PubCrate, Public}
use Rattle.dm_base.specs.Builtins.{builtin_words}
use Rattle.dm_base.specs.Names.{Name, find_name}
use Rattle.dm_base.specs.Path.{Path}
use Rattle.dm_base.specs.PerNs.{keep}
use Rattle.dm_base.specs.Sameness.{same_def}
use Rattle.dm_base.specs.Tree.{IsKnown, crate_of, outer, sees}
use Rattle.dm_base.specs.Visibility.{NamesKnown}
use Rattle.dm_def_map.specs.Maps.{LocalMap}
use Rattle.dm_maps.specs.GoesOn.{variants_if_known}
use Rattle.dm_maps.specs.Readings.{is_2015_in, macro_loc_of, macro_uses_of, prelude_of, root_of}
use Rattle.dm_maps.specs.ItemHomes.{homes_of}
use Rattle.dm_maps.specs.Trees.{tree_of}
use Rattle.dm_maps.specs.World.{World, scope_of}
use Rattle.dm_scope.specs.Scope.{bound_in}
use Rattle.dm_imports.specs.declared.container.Container.{Container}
use Rattle.dm_imports.specs.declared.container.Container.TheVariants as container
use Rattle.dm_imports.specs.declared.glob_import.GlobImport.{GlobImport}
use Rattle.dm_imports.specs.declared.meaning.Meaning.{Meaning}
use Rattle.dm_imports.specs.declared.meaning.Source.{Source}
use Rattle.dm_imports.specs.declared.meaning.Source.TheVariants as source
use Rattle.dm_imports.specs.declared.named_import.NamedImport.{NamedImport}
use Rattle.dm_imports.specs.Meanings.{IsNamed, in_namespace, is_declared, public_def}

-- Def maps, with what is imported in them.
pub record DefMaps : Type 0 where
  pub world : World
  pub imports : List NamedImport
  pub globs : List GlobImport
  -- who sees an enum; its variants are seen as it is
  pub enum_vis : EnumId → Visibility
  -- who sees the constructor of a variant of an enum that all see, where not all do
  pub constructor_vis : EnumVariantId → Option Visibility
  -- which modules have no preludes
  pub is_bare : ModuleId → Bool
  -- which slots are ambiguous
  pub is_ambiguous : ModuleId → Name → Namespace → Bool

-- ---- Slots

abbrev pub marked : Bool → Meaning → Meaning
marked b x = record x { is_ambiguous = b }

-- what a name of a module means in a namespace
abbrev pub at : DefMaps → ModuleId → Name → Namespace → Option Meaning
at d m n s = option_map (marked (d.is_ambiguous m n s)) (in_namespace s (bound_in (scope_of d.world m) n))

-- whether an import, if one asks, brought it
abbrev pub is_by : Option ImportId → Source → Bool
is_by None s = false
is_by (Some i) source.Declaration = false
is_by (Some i) (source.Import j) = import_eq.ghosts.eq i j
is_by (Some i) (source.Glob g) = false

abbrev pub is_by_glob : Meaning → Bool
is_by_glob x = elim x.source [ source.Glob g ↦ true | _ ↦ false ]

-- Who asks for a path: the module that it stands in, and for an import also which one, and what globs bring to its
-- own slots.
pub record Asking : Type 0 where
  pub home : ModuleId
  pub import : Option ImportId
  pub below : ModuleId → Name → Namespace → Option Meaning

-- An import does not see its own binding: there it sees what globs bring. Of other slots is seen what the module sees.
abbrev pub seen : DefMaps → Asking → ModuleId → Name → Namespace → Meaning → Option Meaning
seen d a m n s x =
    if is_by a.import x.source then a.below m n s
    else if sees (tree_of d.world) x.vis a.home then Some x
    else None

abbrev pub shown : DefMaps → Asking → ModuleId → Name → Namespace → Option Meaning
shown d a m n s = option_and_then (seen d a m n s) (at d m n s)

-- ---- What a path leads through: modules and enums

abbrev pub container_in : ModuleDefId → Option Container
container_in (def.ModuleId m) = Some (container.Module m)
container_in (def.AdtId (adt.EnumId e)) = Some (container.Enum e)
container_in _ = None

-- an ambiguous name leads nowhere
abbrev pub leads : Meaning → Option Container
leads x = if x.is_ambiguous then None else container_in x.def

-- a variant is a type, and a value unless it has braces
abbrev pub variant_in : Namespace → FieldsShape → ModuleDefId → Visibility → Option Meaning
variant_in Types f v vis = Some (record { def = v; vis = vis; source = source.Declaration; is_ambiguous = false })
variant_in Values shape.Record v vis = None
variant_in Values shape.Tuple v vis = Some (record { def = v; vis = vis; source = source.Declaration; is_ambiguous = false })
variant_in Values shape.Unit v vis = Some (record { def = v; vis = vis; source = source.Declaration; is_ambiguous = false })
variant_in Macros f v vis = None

abbrev pub constructor_of : Visibility → Option Visibility → Visibility
constructor_of Public (Some v) = v
constructor_of v _ = v

-- it is seen as its enum; of an enum that all see, fewer may see the constructor of a variant
abbrev pub variant_vis : DefMaps → EnumId → Namespace → EnumVariantId → Visibility
variant_vis d e Types v = d.enum_vis e
variant_vis d e Values v = constructor_of (d.enum_vis e) (d.constructor_vis v)
variant_vis d e Macros v = d.enum_vis e

abbrev pub variant : DefMaps → EnumId → Name → Namespace → Option Meaning
variant d e n s =
    option_and_then (λ v. variant_in s v.1 (def.EnumVariantId v.0) (variant_vis d e s v.0)) (option_and_then (find_name n) (variants_if_known d.world e))

abbrev pub visible : DefMaps → Asking → Option Meaning → Option Meaning
visible d a o = keep (λ x. sees (tree_of d.world) x.vis a.home) o

-- a name in a container, where the module that asks sees it
abbrev pub member : DefMaps → Asking → Container → Name → Namespace → Option Meaning
member d a (container.Module m) n s = shown d a m n s
member d a (container.Enum e) n s = visible d a (variant d e n s)

-- segments in a container: each but the last one leads on as a type
abbrev pub through : DefMaps → Asking → Container → Name → List Name → Namespace → Option Meaning
through d a c n [] s = member d a c n s
through d a c n (next ∷ rest) s = option_and_then (λ k. through d a k next rest s) (option_and_then leads (member d a c n Types))

-- ---- Names around a module

abbrev pub local_of : World → ModuleId → LocalMap
local_of w m = option_map_or (λ l. l) (option_and_then (λ k. slice_get w.local_maps k.0) ((homes_of w).krate m)) []

abbrev pub extern_crate : DefMaps → ModuleId → Name → Option Meaning
extern_crate d m n = option_map (λ e. public_def (def.ModuleId e.0)) (find_name n (local_of d.world m))

-- a crate alone sees a macro that an extern crate of it brings, and all see those of the standard library
abbrev pub used_vis : Crate → Option ExternCrateId → Visibility
used_vis k None = Public
used_vis k (Some e) = PubCrate k

abbrev pub used : Crate → MacroId × Option ExternCrateId → Meaning
used k e = record (public_def (def.MacroId e.0)) { vis = used_vis k e.1 }

abbrev pub used_macro : DefMaps → ModuleId → Name → Option Meaning
used_macro d m n =
    option_map (used (crate_of (tree_of d.world) m)) (find_name n (macro_uses_of d.world ((tree_of d.world).map_of m)))

abbrev pub builtin : Name → Option Meaning
builtin n = option_map (λ b. public_def (def.BuiltinType b)) (find_name n builtin_words)

-- a crate of the extern prelude is a type, a macro of the `macro_use` prelude a macro
abbrev pub preluded : DefMaps → ModuleId → Name → Namespace → Option Meaning
preluded d m n Types = extern_crate d m n
preluded d m n Values = None
preluded d m n Macros = used_macro d m n

abbrev pub builtin_in : Name → Namespace → Option Meaning
builtin_in n Types = builtin n
builtin_in n Values = None
builtin_in n Macros = None

-- what the standard prelude has, or what another module that stands for it
abbrev pub in_prelude : DefMaps → Asking → Name → Namespace → Option Meaning
in_prelude d a n s = option_and_then (λ p. shown d a p n s) (prelude_of d.world ((tree_of d.world).map_of a.home))

-- what the compiler expands
abbrev pub is_builtin : MacroExpander → Bool
is_builtin (expander.Declarative s) = false
is_builtin _ = true

abbrev pub is_builtin_macro : MacroLoc → Bool
is_builtin_macro (loc.Macro2 e) = is_builtin e
is_builtin_macro (loc.MacroRules e) = is_builtin e
is_builtin_macro (loc.Proc k) = false

abbrev pub is_compilers : World → Meaning → Bool
is_compilers w x = elim x.def [ def.MacroId m ↦ option_map_or is_builtin_macro (macro_loc_of w m) false | _ ↦ false ]

-- A module without preludes still has builtin types, and the macros of the compiler that the standard prelude has.
abbrev pub around_bare : DefMaps → Asking → Name → Namespace → Option Meaning
around_bare d a n s = option_or (keep (is_compilers d.world) (in_prelude d a n s)) (builtin_in n s)

-- crates and macros of preludes go before the standard prelude, and that before builtin types
abbrev pub around_preluded : DefMaps → Asking → Name → Namespace → Option Meaning
around_preluded d a n s = option_or (preluded d a.home n s) (option_or (in_prelude d a n s) (builtin_in n s))

abbrev pub around : DefMaps → Asking → Name → Namespace → Option Meaning
around d a n s = if d.is_bare a.home then around_bare d a n s else around_preluded d a n s

-- ---- Where a path begins

abbrev pub not_by_glob : Option Meaning → Option Meaning
not_by_glob o = keep (λ x. not (is_by_glob x)) o

abbrev pub extern_crate_in : DefMaps → Asking → Name → Namespace → Option Meaning
extern_crate_in d a n Types = extern_crate d a.home n
extern_crate_in d a n Values = None
extern_crate_in d a n Macros = None

-- The first segment of a plain path: what the module declares or imports by name goes before the names around it, and
-- those before what globs bring.
abbrev pub in_module : DefMaps → Asking → Name → Namespace → Option Meaning
in_module d a n s =
    let own = shown d a a.home n s in
    option_or (not_by_glob own) (option_or (around d a n s) own)

-- in edition 2015: what the crate's root has
abbrev pub in_root : DefMaps → Asking → Name → Namespace → Option Meaning
in_root d a n s = option_and_then (λ r. shown d a r n s) (root_of d.world (crate_of (tree_of d.world) a.home))

abbrev pub is_macro : MacroId → Meaning → Bool
is_macro t x = is_declared x && same_def x.def (def.MacroId t)

-- a textual macro is exported where the root of its crate declares it under its name
abbrev pub is_exported : World → Crate → MacroId → Name → Bool
is_exported w k t n =
    option_map_or (λ r. option_map_or (is_macro t) (in_namespace Macros (bound_in (scope_of w r) n)) false) (root_of w k) false

-- its crate sees it, and all do where it is exported
abbrev pub textual_macro : World → Crate → MacroId → Name → Meaning
textual_macro w k t n = record (public_def (def.MacroId t)) { vis = if is_exported w k t n then Public else PubCrate k }

-- a textual macro goes before all
abbrev pub textual_in : DefMaps → Asking → Option MacroId → Name → Namespace → Option Meaning
textual_in d a t n Types = None
textual_in d a t n Values = None
textual_in d a t n Macros = option_map (λ m. textual_macro d.world (crate_of (tree_of d.world) a.home) m n) t

abbrev pub plain : DefMaps → Asking → Option MacroId → Name → Namespace → Option Meaning
plain d a t n s = option_or (textual_in d a t n s) (in_module d a n s)

abbrev pub is_2015 : DefMaps → Asking → Bool
is_2015 d a = is_2015_in d.world (crate_of (tree_of d.world) a.home)

abbrev pub first : DefMaps → Asking → Option MacroId → Bool → Name → Namespace → Option Meaning
first d a t is_abs n s =
    if is_2015 d a then in_root d a n s
    else if is_abs then extern_crate_in d a n s
    else plain d a t n s

-- ---- Paths

-- a module itself
abbrev pub itself : Container → Namespace → Option Meaning
itself (container.Module m) Types = Some (public_def (def.ModuleId m))
itself _ _ = None

abbrev pub from_container : DefMaps → Asking → List Name → Namespace → Container → Option Meaning
from_container d a [] s c = itself c s
from_container d a (n ∷ rest) s c = through d a c n rest s

abbrev pub from_module : DefMaps → Asking → List Name → Namespace → Option ModuleId → Option Meaning
from_module d a ns s o = option_and_then (λ m. from_container d a ns s (container.Module m)) o

-- in edition 2015 a path without a name is the crate's root, as in `use *;` and `use ::*;`; since then it is nothing
abbrev pub of_no_name : DefMaps → Asking → Namespace → Option Meaning
of_no_name d a s = if is_2015 d a then from_module d a [] s (root_of d.world (crate_of (tree_of d.world) a.home)) else None

abbrev pub from_first : DefMaps → Asking → Option MacroId → Bool → List Name → Namespace → Option Meaning
from_first d a t is_abs [] s = of_no_name d a s
from_first d a t is_abs (n ∷ []) s = first d a t is_abs n s
from_first d a t is_abs (n ∷ next ∷ rest) s = option_and_then (λ k. through d a k next rest s) (option_and_then leads (first d a t is_abs n Types))

-- what a path means in a namespace; t is the textual macro of its name where it stands
abbrev pub path_meaning : DefMaps → Asking → Option MacroId → Path → Namespace → Option Meaning
path_meaning d a t p s = elim p.kind [
  | kind.Crate ↦ from_module d a p.segments s (root_of d.world (crate_of (tree_of d.world) a.home))
  | kind.DollarCrate k ↦ from_module d a p.segments s (root_of d.world k)
  | kind.Super k ↦ from_module d a p.segments s (slice_get (outer (tree_of d.world) a.home) k)
  | kind.Abs ↦ from_first d a t true p.segments s
  | kind.Plain ↦ from_first d a t false p.segments s
]

-- ---- What is asked of def maps and of who asks

-- each visibility of a variant names a module of the world's
abbrev pub AreVariantsNamed : DefMaps → Type 0
AreVariantsNamed d = (e : EnumId) (s : Namespace) (v : EnumVariantId) → NamesKnown (tree_of d.world) (variant_vis d e s v)

pub record MayAsk (d : DefMaps) (a : Asking) : Type 0 where
  pub home : IsKnown (tree_of d.world) a.home
  pub variants : AreVariantsNamed d
  pub below : (m : ModuleId) (n : Name) (s : Namespace) → IsNamed d.world (a.below m n s)

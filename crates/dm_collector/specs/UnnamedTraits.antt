-- Traits without a name (`use path::Trait as _`): what imports bring, and what globs bring on.
use Rattle.std.specs.Prelude.{◌≡◌, ◌&&◌, ℕ, Bool, true, false, Option, Some, None, length, slice_get, if◌then◌else◌}
use Rattle.std.specs.List.{list_all}
use Rattle.std.specs.Option.{option_and_then, option_map}
use Rattle.dm_base.specs.declared.ids.ModuleId.{ModuleId}
use Rattle.dm_base.specs.declared.ids.TraitId.{TraitId}
use Rattle.dm_base.specs.declared.imports.ImportId.{ImportId}
use Rattle.dm_base.specs.declared.per_ns.Namespace.TheVariants.{Types}
use Rattle.dm_base.specs.declared.visibility.Visibility.{Visibility}
use Rattle.dm_base.specs.PerNs.{keep}
use Rattle.dm_base.specs.Tree.{sees}
use Rattle.dm_imports.specs.declared.container.Container.{Container}
use Rattle.dm_imports.specs.declared.container.Container.TheVariants as container
use Rattle.dm_imports.specs.declared.glob_import.GlobImport.{GlobImport}
use Rattle.dm_imports.specs.declared.meaning.Meaning.{Meaning}
use Rattle.dm_imports.specs.declared.named_import.ImportKind.{ImportKind}
use Rattle.dm_imports.specs.declared.named_import.ImportKind.TheVariants as kind
use Rattle.dm_imports.specs.declared.named_import.NamedImport.{NamedImport}
use Rattle.dm_imports.specs.Asked.{meaning_in, source_in}
use Rattle.dm_imports.specs.Paths.{DefMaps}
use Rattle.dm_maps.specs.GoesOn.{trait_import_holds, with_unnamed_trait}
use Rattle.dm_maps.specs.Known.{knows}
use Rattle.dm_maps.specs.Trees.{tree_of}
use Rattle.dm_maps.specs.World.{World, scope_of}
use Rattle.dm_retry.specs.Unnamed.{is_new_trait, trait_in}

-- an unnamed trait, with who sees it and the import that brought it
abbrev pub Unnamed : Type 0
Unnamed = TraitId × Visibility × Option ImportId

-- all that it names in a module is the world's, as it is of each that a checked world has
abbrev pub is_known : World → ModuleId → Unnamed → Bool
is_known w m e = list_all (knows w) (trait_import_holds m e.0 e.1 e.2)

-- A module has yet to get one: it has not that trait for all those who see this one.
abbrev pub is_new : World → ModuleId → Unnamed → Bool
is_new w m e = is_known w m e && is_new_trait w m e.0 e.1

abbrev pub with_unnamed : World → ModuleId → Unnamed → World
with_unnamed w m e = with_unnamed_trait w m e.0 e.1 e.2

-- ---- Imports as `_`

abbrev pub is_unnamed : ImportKind → Bool
is_unnamed kind.Unnamed = true
is_unnamed _ = false

-- an ambiguous name brings nothing
abbrev pub trait_of : Meaning → Option TraitId
trait_of x = if x.is_ambiguous then None else trait_in x.def

-- the trait that the path of an import as `_` means
abbrev pub trait_meant : DefMaps → NamedImport → Option TraitId
trait_meant d i = if is_unnamed i.kind then option_and_then trait_of (meaning_in d i.home None i.path Types) else None

-- the trait that such an import has yet to bring its module
abbrev pub missing_import : DefMaps → NamedImport → Option Unnamed
missing_import d i = keep (is_new d.world i.home) (option_map (λ t. (t, i.vis, Some i.import)) (trait_meant d i))

-- it has brought what it brings
abbrev pub HasImported : DefMaps → NamedImport → Type 0
HasImported d i = missing_import d i ≡ None

-- ---- Globs

abbrev pub module_in : Container → Option ModuleId
module_in (container.Module m) = Some m
module_in (container.Enum e) = None

-- the module that a glob's path means, if it means one
abbrev pub module_meant : DefMaps → GlobImport → Option ModuleId
module_meant d g = option_and_then module_in (source_in d g)

-- whether a module sees an unnamed trait
abbrev pub is_seen_from : World → ModuleId → Unnamed → Bool
is_seen_from w m e = is_known w m e && sees (tree_of w) e.1 m

-- an unnamed trait, as a glob brings it: whom the glob lets sees it, and it keeps its import
abbrev pub brought : GlobImport → Unnamed → Unnamed
brought g e = (e.0, g.vis, e.2)

-- what a glob has yet to bring of the unnamed trait at a place of a module, where its own module sees that
abbrev pub missing_of : World → GlobImport → ModuleId → ℕ → Option Unnamed
missing_of w g m n = keep (is_new w g.into) (option_map (brought g) (keep (is_seen_from w g.into) (slice_get (scope_of w m).unnamed_traits n)))

-- the same of its source
abbrev pub missing_glob : DefMaps → GlobImport → ℕ → Option Unnamed
missing_glob d g n = option_and_then (λ m. missing_of d.world g m n) (module_meant d g)

-- it has brought all that it brings
abbrev pub HasBrought : DefMaps → GlobImport → Type 0
HasBrought d g = (n : ℕ) → missing_glob d g n ≡ None

-- how many unnamed traits the source of a glob has, if it has a module as its source
abbrev pub IsSourceCount : DefMaps → GlobImport → ℕ → Type 0
IsSourceCount d g n = (m : ModuleId) → module_meant d g ≡ Some m → n ≡ length (scope_of d.world m).unnamed_traits

-- The names of imports that mean nothing, listed in their modules.
use Rattle.std.specs.Prelude.{◌≡◌, ◌&&◌, ◌⊎◌, ◌+◌, ℕ, Bool, true, false, not, is_none, is_some, List, [], ◌∷◌, None, if◌then◌else◌, slice_get}
use Rattle.std.specs.List.{flat_map}
use Rattle.std.specs.Option.{option_map_or}
use Rattle.dm_base.specs.declared.per_ns.Namespace.{Namespace}
use Rattle.dm_base.specs.declared.per_ns.Namespace.TheVariants.{Types, Values, Macros}
use Rattle.dm_base.specs.PerNs.{nothing}
use Rattle.dm_collector.specs.UnnamedTraits.{is_unnamed}
use Rattle.dm_collector.specs.declared.unresolved_names.UnresolvedName.{UnresolvedName}
use Rattle.dm_imports.specs.Asked.{meaning_in}
use Rattle.dm_imports.specs.Bound.{Maps}
use Rattle.dm_imports.specs.Paths.{DefMaps}
use Rattle.dm_imports.specs.declared.named_import.NamedImport.{NamedImport}
use Rattle.dm_imports.specs.declared.rules.meanings.ImportMeanings.{ImportMeanings}
use Rattle.dm_maps.specs.declared.check.held.HeldId.TheVariants as held
use Rattle.dm_maps.specs.Known.{knows}
use Rattle.dm_maps.specs.PushRes.{with_push}
use Rattle.dm_maps.specs.World.{scope_of}
use Rattle.dm_scope.specs.Push.{globs_after}

abbrev pub bring_nothing : ImportMeanings → Bool
bring_nothing x = is_none x.types && is_none x.values && is_none x.macros

abbrev pub leads_in : DefMaps → NamedImport → Namespace → Bool
leads_in d i s = is_some (meaning_in d i.home None i.path s)

-- an import means nothing that brings nothing in any namespace, or whose path leads nowhere where it is one as `_`
abbrev pub means_nothing : DefMaps → ImportMeanings → NamedImport → Bool
means_nothing d x i =
    if is_unnamed i.kind then not (leads_in d i Types) && not (leads_in d i Values) && not (leads_in d i Macros) else bring_nothing x

-- the places of those of some imports, from a number on, where this is what each of them brings
abbrev pub unresolved_from : DefMaps → ℕ → List ImportMeanings → List NamedImport → List ℕ
unresolved_from d n (x ∷ xs) (i ∷ is) = if means_nothing d x i then n ∷ unresolved_from d (n + 1) xs is else unresolved_from d (n + 1) xs is
unresolved_from d n _ _ = []

-- the name of an import; one as `_` has none
abbrev pub name_of : NamedImport → List UnresolvedName
name_of i = if is_unnamed i.kind then [] else record { home = i.home; name = i.name } ∷ []

abbrev pub name_at : List NamedImport → ℕ → List UnresolvedName
name_at is n = option_map_or name_of (slice_get is n) []

abbrev pub names_at : List NamedImport → List ℕ → List UnresolvedName
names_at is ns = flat_map (name_at is) ns

-- a name of a module that the world has is pushed there with nothing, so that it stands among the unresolved ones
abbrev pub listed_if : Bool → Maps → UnresolvedName → Maps
listed_if false s n = s
listed_if true s n = record {
  world = with_push s.world s.flags n.home n.name nothing None;
  flags = globs_after (scope_of s.world n.home) s.flags n.home n.name nothing None;
}

abbrev pub with_name : Maps → UnresolvedName → Maps
with_name s n = listed_if (knows s.world (held.Module n.home)) s n

abbrev pub with_names : Maps → List UnresolvedName → Maps
with_names s [] = s
with_names s (n ∷ ns) = with_names (with_name s n) ns

-- from def maps with some of these names listed, the first: none, or one and some of those behind it
abbrev pub IsListedSome : Maps → List UnresolvedName → Maps → Type 0
IsListedSome s [] t = t ≡ s
IsListedSome s (n ∷ ns) t = (t ≡ s) ⊎ IsListedSome (with_name s n) ns t

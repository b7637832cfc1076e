-- What the `macro_use` prelude of a crate has yet to get.
use Rattle.std.specs.Prelude.{◌≡◌, ◌&&◌, ◌||◌, Bool, true, false, List, [], ◌∷◌, Option, Some, None, All, if◌then◌else◌}
use Rattle.std.specs.Option.{option_and_then, option_eq, option_map, option_or}
use Rattle.crate_items.specs.DeclaredMacros.{Used}
use Rattle.crate_tables.specs.StandardPreludes.{own_map}
use Rattle.dm_base.specs.Sameness.{same_macro}
use Rattle.dm_base.specs.declared.per_ns.Item.{Item}
use Rattle.dm_base.specs.declared.visibility.Visibility.{Visibility}
use Rattle.dm_base.specs.declared.visibility.Visibility.TheVariants.{Public}
use Rattle.dm_collector.specs.MacroUses.{Uses}
use Rattle.dm_collector.specs.declared.macro_uses.MacroSource.{MacroSource}
use Rattle.dm_base.specs.Names.{Name, find_name}
use Rattle.dm_base.specs.contracts.ids.ExternCrateIdPartialEq.TheImpl as extern_eq
use Rattle.dm_base.specs.declared.ids.ExternCrateId.{ExternCrateId}
use Rattle.dm_base.specs.declared.imports.ImportOrExternCrate.{ImportOrExternCrate}
use Rattle.dm_base.specs.declared.item_ids.MacroId.{MacroId}
use Rattle.dm_maps.specs.BuildMaps.{lacks_map}
use Rattle.dm_maps.specs.Cut.{among}
use Rattle.dm_maps.specs.Readings.{macro_uses_of}
use Rattle.dm_maps.specs.World.{World, scope_of}
use Rattle.dm_scope.specs.Scope.{bound_in}
use Rattle.dm_scope.specs.Sorted.{names_of}

-- an entry of a prelude: a macro, and the extern crate that brought it, if one did
abbrev pub Entry : Type 0
Entry = MacroId × Option ExternCrateId

-- ---- What the roots bring

abbrev pub is_public : Visibility → Bool
is_public Public = true
is_public _ = false

-- a macro that all see
abbrev pub public_in : Option (Item MacroId ImportOrExternCrate) → Option MacroId
public_in None = None
public_in (Some i) = if is_public i.vis then Some i.def else None

-- which macros of a root are used: all, where nothing says which
abbrev pub uses_whole : Option Used → Bool
uses_whole None = true
uses_whole (Some u) = u.is_whole

abbrev pub names_used : Option Used → List Name
names_used None = []
names_used (Some u) = u.names

-- what a root brings under a name: the macro that it has there, if all see that, and it is one of those that are used
abbrev pub brought : World → MacroSource → Name → Option Entry
brought w s n =
    if uses_whole s.macros || among (names_used s.macros) n
    then option_map (λ m. (m, s.brought_by)) (public_in (bound_in (scope_of w s.root) n).macros)
    else None

-- of some roots the last that brings anything
abbrev pub given : World → List MacroSource → Name → Option Entry
given w [] n = None
given w (s ∷ ss) n = option_or (given w ss n) (brought w s n)

-- ---- What is yet to be written

abbrev pub same_extern : ExternCrateId → ExternCrateId → Bool
same_extern = extern_eq.ghosts.eq

abbrev pub is_entry : Option Entry → Entry → Bool
is_entry None e = false
is_entry (Some f) e = same_macro f.0 e.0 && option_eq same_extern f.1 e.1

-- an entry, unless the prelude has it
abbrev pub unless_there : World → Uses → Name → Entry → Option Entry
unless_there w u n e = if is_entry (find_name n (macro_uses_of w (own_map u.krate))) e then None else Some e

-- what the prelude of a crate of the world has yet to get under a name
abbrev pub missing_macro : World → Uses → Name → Option Entry
missing_macro w u n =
    if lacks_map w (own_map u.krate) then None else option_and_then (unless_there w u n) (given w u.sources n)

-- the names under which a root may bring one: all that it has, or those that are used
abbrev pub used_names : World → MacroSource → List Name
used_names w s = if uses_whole s.macros then names_of (scope_of w s.root) else names_used s.macros

-- A crate has its macros: under no name that a root may bring its prelude has anything yet to get.
abbrev pub HasMacrosOf : World → Uses → MacroSource → Type 0
HasMacrosOf w u s = All (λ (n : Name). missing_macro w u n ≡ None) (used_names w s)

abbrev pub HasMacros : World → Uses → Type 0
HasMacros w u = All (HasMacrosOf w u) u.sources

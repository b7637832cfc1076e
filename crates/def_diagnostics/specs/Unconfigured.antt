-- What `cfg` takes away.
use Rattle.std.specs.Prelude.{◌&&◌, ◌+◌, ◌++◌, ℕ, Bool, true, false, not, List, [], ◌∷◌, Option, None, Some, is_some, slice_get, if◌then◌else◌}
use Rattle.std.specs.List.{flat_map}
use Rattle.def_diagnostics.specs.DeclaredMods.{declared_mods, has}
use Rattle.def_diagnostics.specs.Diagnostics.{at_item, of_item}
use Rattle.def_diagnostics.specs.declared.diagnostic.Diagnostic.{Diagnostic}
use Rattle.def_diagnostics.specs.declared.diagnostic.DiagnosticKind.TheVariants as kind
use Rattle.crate_items.specs.declared.items.declared_item.DeclaredItem.{DeclaredItem}
use Rattle.crate_items.specs.DeclaredModules.{Module}
use Rattle.crate_items.specs.Modules.{Listing}
use Rattle.crate_items.specs.Sources.{Source, source_at}
use Rattle.crate_items.specs.declared.modules.standing.Standing.{Standing}
use Rattle.dm_base.specs.declared.ids.FileId.{FileId}
use Rattle.item_tree.specs.declared.items.item_kind.ItemKind.{ItemKind}
use Rattle.item_tree.specs.declared.items.item_kind.ItemKind.TheVariants as item
use Rattle.item_tree.specs.declared.items.Item.{Item}

-- an arm of `cfg_if!` or `cfg_select!` that is not chosen is not told of, nor is what stands in it
abbrev pub is_told : ItemKind → Bool
is_told item.CfgArm = false
is_told item.InnerAttribute = false
is_told item.Error = false
is_told _ = true

-- the crate has an item that stands so
abbrev pub is_there : Option Standing → Bool
is_there None = true
is_there (Some s) = s.is_configured

abbrev pub is_outer_there : List Standing → Option ℕ → Bool
is_outer_there ss None = true
is_outer_there ss (Some p) = is_there (slice_get ss p)

-- the crate does not have the item of a number, but the one that this is in: so its own `cfg`s take it away
abbrev pub is_taken_away : List Standing → ℕ → Item → Bool
is_taken_away ss n x = (is_told x.kind && not (is_there (slice_get ss n))) && is_outer_there ss x.parent

abbrev pub of_item_at : FileId → List Standing → ℕ → Item → List Diagnostic
of_item_at f ss n x = if is_taken_away ss n x then at_item f n kind.UnconfiguredCode ∷ [] else []

abbrev pub of_items_from : FileId → List Standing → ℕ → List Item → List Diagnostic
of_items_from f ss n [] = []
of_items_from f ss n (x ∷ xs) = of_item_at f ss n x ++ of_items_from f ss (n + 1) xs

-- of a file that begins with a `cfg` that does not hold, as the root of a crate may, no item is told of
abbrev pub of_source : FileId → Option Source → List Diagnostic
of_source f None = []
of_source f (Some s) = if s.is_enabled then of_items_from f s.standings 0 s.items else []

-- an inline module is in the file of another one
abbrev pub of_file : Listing → FileId → Option ℕ → List Diagnostic
of_file l f None = of_source f (source_at l.sources f)
of_file l f (Some n) = []

-- the items of a module's file that their own `cfg`s take away
abbrev pub of_module : Listing → Module → List Diagnostic
of_module l m = of_file l m.file m.item

abbrev pub is_mod : ItemKind → Bool
is_mod item.Mod = true
is_mod _ = false

-- a `mod` item that leads neither to a module nor to a fault: its file begins with a `cfg` that does not hold
abbrev pub of_mod : List (ℕ × ℕ) → DeclaredItem → List Diagnostic
of_mod mods x =
    if (is_mod x.kind && is_some x.name) && not (has mods x) then of_item kind.UnconfiguredCode x ∷ [] else []

-- what `cfg` takes away: of each file of a module, and then of the `mod` items
abbrev pub unconfigured : Listing → List DeclaredItem → List Diagnostic
unconfigured l xs = flat_map (of_module l) l.modules ++ flat_map (of_mod (declared_mods l)) xs

-- The modules and textual macros of a crate in the order of its text, in which a module stands behind its `mod` item.
use Rattle.std.specs.Prelude.{◌==◌, ◌&&◌, ◌+◌, ◌++◌, ℕ, Bool, true, false, List, [], ◌∷◌, Option, Some, None, drop, take, if◌then◌else◌}
use Rattle.std.specs.List.{find, flat_map, position}
use Rattle.std.specs.Option.{option_map}
use Rattle.crate_items.specs.declared.items.declared_item.DeclaredItem.{DeclaredItem}
use Rattle.crate_items.specs.declared.macros.textual_order.TextEvent.{TextEvent}
use Rattle.crate_items.specs.declared.macros.textual_order.TextEvent.TheVariants.{Begins, Ends, Item}
use Rattle.crate_items.specs.declared.macros.textual_order.TextualItem.{TextualItem}
use Rattle.crate_items.specs.DeclaredModules.{Module}
use Rattle.crate_items.specs.declared.modules.declared_module.Declaration.{Declaration}
use Rattle.item_tree.specs.declared.items.item_kind.ItemKind.{ItemKind}
use Rattle.item_tree.specs.declared.items.item_kind.ItemKind.TheVariants as item

-- textual scope knows modules and macros by `macro_rules!`
abbrev pub is_textual : ItemKind → Bool
is_textual item.Mod = true
is_textual item.MacroRules = true
is_textual _ = false

-- the items that it knows, with their numbers
abbrev pub textual_if : ℕ → DeclaredItem → List TextualItem
textual_if n x =
    if is_textual x.kind then record { number = n; «module» = x.«module»; file = x.file; item = x.item } ∷ [] else []

abbrev pub textual_from : ℕ → List DeclaredItem → List TextualItem
textual_from n [] = []
textual_from n (x ∷ xs) = textual_if n x ++ textual_from (n + 1) xs

-- such an item, if it is of the module m
abbrev pub event_in : ℕ → TextualItem → List TextEvent
event_in m t = if t.«module» == m then Item t.number ∷ [] else []

-- what stands in the module m: it begins, has its items in order, and ends
abbrev pub block : List TextualItem → ℕ → List TextEvent
block ts m = Begins m ∷ flat_map (event_in m) ts ++ Ends m ∷ []

-- the item is what declares a module
abbrev pub is_declared_by : Declaration → TextualItem → Bool
is_declared_by d t = (t.«module» == d.parent) && ((t.file.0 == d.file.0) && (t.item == d.item))

-- the number of the item that declares a module
abbrev pub declaring : List TextualItem → Declaration → Option ℕ
declaring ts d = option_map (λ (t : TextualItem). t.number) (find (is_declared_by d) ts)

abbrev pub is_item : ℕ → TextEvent → Bool
is_item n (Item i) = i == n
is_item n _ = false

-- these events, behind the one at a place
abbrev pub put_behind : List TextEvent → List TextEvent → Option ℕ → List TextEvent
put_behind events more None = events
put_behind events more (Some i) = take (i + 1) events ++ more ++ drop (i + 1) events

-- what stands in the module m, behind the item of a number
abbrev pub put_in : List TextualItem → List TextEvent → ℕ → Option ℕ → List TextEvent
put_in ts events m None = events
put_in ts events m (Some n) = put_behind events (block ts m) (position (is_item n) events)

-- the root is declared nowhere, and stands there already
abbrev pub with_module : List TextualItem → List TextEvent → ℕ → Option Declaration → List TextEvent
with_module ts events m None = events
with_module ts events m (Some d) = put_in ts events m (declaring ts d)

abbrev pub ordered_from : List TextualItem → List TextEvent → ℕ → List Module → List TextEvent
ordered_from ts events m [] = events
ordered_from ts events m (x ∷ ms) = ordered_from ts (with_module ts events m x.declaration) (m + 1) ms

abbrev pub ordered : List Module → List TextualItem → List TextEvent
ordered ms ts = ordered_from ts (block ts 0) 0 ms

-- First stands what is in the root. What is in each other module is put behind the item that declares it.
abbrev pub textual_order : List Module → List DeclaredItem → List TextEvent
textual_order ms xs = ordered ms (textual_from 0 xs)

-- The items of the modules of a crate, and those that stand in other items.
use Rattle.std.specs.Prelude.{◌≡◌, ◌<◌, ◌+◌, ◌++◌, ℕ, List, [], ◌∷◌, Option, Some, filter, map, nat_eq}
use Rattle.std.specs.Global.{Vec}
use Rattle.std.specs.Map.{lookup}
use Rattle.crate_items.specs.FileItems.{AreByModule, IsInTextOrder, items_known, stands_in}
use Rattle.crate_items.specs.declared.items.file_items.Homed.{Homed}
use Rattle.crate_items.specs.declared.items.module_items.ItemHome.{ItemHome}
use Rattle.crate_items.specs.declared.items.module_items.ModuleItem.{ModuleItem}
use Rattle.crate_items.specs.DeclaredModules.{Module}
use Rattle.crate_items.specs.Files.{id_of}
use Rattle.crate_items.specs.Sources.{Source, source_at}

-- the items of a home: of those that the crate has of its file, in the order of the text, those that stand in it
abbrev pub AreItemsOf : List (Option Source) → ItemHome → List Homed → Type 0
AreItemsOf table h items =
    (ordered : List Homed) × IsInTextOrder (items_known (source_at table h.file)) ordered
    × (items ≡ filter (stands_in h.item) ordered)

-- an item of the home of a number
abbrev pub row_of : ℕ → ItemHome → Homed → ModuleItem
row_of n h x = record { «module» = n; file = h.file; item = x.item }

-- the home of a row is in a list of so many
abbrev pub IsBelow : ℕ → ModuleItem → Type 0
IsBelow k r = r.«module» < k

-- the items of the homes from a number on: those of each in the order of the text, and behind them those of the next
abbrev pub AreItemsIn : List (Option Source) → ℕ → List ItemHome → List ModuleItem → Type 0
AreItemsIn table n [] rows = rows ≡ []
AreItemsIn table n (h ∷ hs) rows =
    (own : List Homed) × (rest : List ModuleItem) × AreItemsOf table h own × AreItemsIn table (n + 1) hs rest
    × (rows ≡ map (row_of n h) own ++ rest)

-- what is added are the items of the home of a number
abbrev pub AddsItemsOf : List (Option Source) → ℕ → ItemHome → List ModuleItem → List ModuleItem → Type 0
AddsItemsOf table n h old new =
    (own : List Homed) × AreItemsOf table h own × (new ≡ old ++ map (row_of n h) own)

-- a module is a home: that of its file, or of its item there
abbrev pub home_of : Module → ItemHome
home_of m = record { file = m.file; item = m.item }

-- the items of the modules from a number on
abbrev pub AreItemsFrom : List (Option Source) → ℕ → List Module → List ModuleItem → Type 0
AreItemsFrom table n ms rows = AreItemsIn table n (map home_of ms) rows

-- tables of items by the numbers of their files, each by modules
abbrev pub AreTables : List (Option Source) → List (ℕ × Vec Homed) → Type 0
AreTables table entries =
    (file : ℕ) (items : Vec Homed) → lookup (nat_eq file) entries ≡ Some items
    → AreByModule (items_known (source_at table (id_of file))) items.items

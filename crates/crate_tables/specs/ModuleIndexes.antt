-- Which module of a crate's list an item declares.
use Rattle.std.specs.Prelude.{◌≡◌, ◌==◌, ◌&&◌, ℕ, Bool, false, List, Option, None, Some}
use Rattle.std.specs.List.{position_from}
use Rattle.std.specs.Map.{lookup}
use Rattle.crate_items.specs.DeclaredModules.{Module}
use Rattle.crate_items.specs.declared.modules.declared_module.Declaration.{Declaration}
use Rattle.crate_tables.specs.declared.item_outline.ItemOutline.{ItemOutline}

-- a module is declared by an item that stands in its parent
abbrev pub declares : ItemOutline → Option Declaration → Bool
declares x None = false
declares x (Some d) = (d.parent == x.home) && (d.item == x.item)

-- the number of the first of some modules that an item declares, where the first of them has this number
abbrev pub declared_from : ℕ → List Module → ItemOutline → Option ℕ
declared_from n ms x = position_from (λ (m : Module). declares x m.declaration) n ms

abbrev pub declared_by : List Module → ItemOutline → Option ℕ
declared_by ms x = declared_from 0 ms x

-- ---- By a table

abbrev pub same_item : ℕ × ℕ → ℕ × ℕ → Bool
same_item a b = (a.0 == b.0) && (a.1 == b.1)

-- the number that a table has for the place of an item
abbrev pub number_of : List ((ℕ × ℕ) × ℕ) → ItemOutline → Option ℕ
number_of entries x = lookup (same_item (x.home, x.item)) entries

-- a table tells of each item which of some modules it declares
abbrev pub AreNumbersOf : ℕ → List Module → List ((ℕ × ℕ) × ℕ) → Type 0
AreNumbersOf n ms entries = (x : ItemOutline) → number_of entries x ≡ declared_from n ms x

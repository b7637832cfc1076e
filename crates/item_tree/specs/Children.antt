-- The items that stand in an item.
use Rattle.std.specs.Prelude.{◌==◌, ◌+◌, ℕ, Bool, false, List, Option, Some, None, filter}
use Rattle.std.specs.List.Sorted.{IsNonDecreasingBy}
use Rattle.item_tree.specs.declared.items.Item.{Item}

-- a number that is greater for a later parent; the top level comes before all
abbrev pub rank_of : Option ℕ → ℕ
rank_of None = 0
rank_of (Some n) = n + 1

-- the items of each level stand together, the levels in the order of the items that they are of
abbrev pub ByParent : List Item → Type 0
ByParent items = IsNonDecreasingBy (λ (x : Item). rank_of x.parent) items

abbrev pub is_number : ℕ → Option ℕ → Bool
is_number n None = false
is_number n (Some p) = p == n

-- the items whose parent is the one of a number
abbrev pub children_of : ℕ → List Item → List Item
children_of n items = filter (λ (x : Item). is_number n x.parent) items

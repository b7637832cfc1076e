-- How an item stands goes by the item that it is in: the law of standings.
use Rattle.std.specs.Prelude.{◌≡◌, ◌+◌, ◌<◌, ℕ, List, [], ◌∷◌, Option, Some, None, IfSome, slice_get, take}
use Rattle.crate_items.specs.Standings.{View, around, chosen_behind, holds, standing_of, standings}
use Rattle.item_tree.specs.declared.items.Item.{Item}

-- the `cfg_if!` of the last arm that holds among some items, the first of which has this number
abbrev pub chosen_through : View → Option ℕ → ℕ → List Item → Option ℕ
chosen_through v chosen n [] = chosen
chosen_through v chosen n (x ∷ xs) = chosen_through v (chosen_behind chosen x (holds v n x)) (n + 1) xs

abbrev pub chosen_before : View → ℕ → Option ℕ
chosen_before v n = chosen_through v None 0 (take n v.items)

-- each item that stands behind the one that it is in stands as that one tells
abbrev pub StandingsGoByParents : Type 0
StandingsGoByParents = (v : View) (n : ℕ) (x : Item) → slice_get v.items n ≡ Some x → IfSome x.parent (λ p. p < n)
    → slice_get (standings v) n ≡ Some (standing_of (chosen_before v n) n x (holds v n x) (around v (standings v) x.parent))

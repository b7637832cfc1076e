-- The items of a text stand in the order of the items that they are in.
use Rattle.std.proofs.Common.{◌≡◌, ◌+◌, ◌-◌, ◌<◌, ◌≤◌, ◌++◌, ℕ, zero, suc, List, [], ◌∷◌, length, get_or, sym, subst, arith}
use Rattle.std.specs.Prelude.{Option, Some, None}
use Rattle.item_tree.specs.Children.{rank_of, ByParent}
use Rattle.item_tree.specs.CfgIfs.{first_in, kind_behind}
use Rattle.item_tree.specs.Items.{items_from, inner_level, within, children_from, top_level_of}
use Rattle.item_tree.specs.Trees.{trees_of}
use Rattle.item_tree.specs.declared.items.Item.{Item}
use Rattle.item_tree.specs.declared.items.Level.{Level}
use Rattle.item_tree.specs.declared.cfg.cfg_if.LevelKind.{LevelKind}
use Rattle.item_tree.specs.declared.cfg.cfg_if.LevelKind.TheVariants.{Items}
use Rattle.item_tree.specs.declared.lexer.lexeme.Lexeme.{Lexeme}
use Rattle.item_tree.specs.declared.lexer.trees.Tree.{Tree}

-- no rank is below the one before, and none below this
abbrev Rising : ℕ → List Item → Type 0
Rising low [] = Unit {0}
Rising low (x ∷ xs) = (low ≤ rank_of x.parent) × Rising (rank_of x.parent) xs

lower : (low high : ℕ) (xs : List Item) → low ≤ high → Rising high xs → Rising low xs
lower low high [] up h = tt
lower low high (x ∷ xs) up h = let first = h.0 in (omega arith, h.1)

-- a level, and behind it what has no lower rank
items_then : (kind : LevelKind) (parent : Option ℕ) (end skipped : ℕ) (ts : List Tree) (rest : List Item) (low : ℕ) → low ≤ rank_of parent → Rising (rank_of parent) rest → Rising low (items_from kind parent end skipped ts ++ rest)
items_then kind parent end skipped [] rest low up h = lower low (rank_of parent) rest up h
items_then kind parent end zero (t ∷ ts) rest low up h =
    (up, items_then (kind_behind kind (first_in kind (t ∷ ts))) parent end ((first_in kind (t ∷ ts)).len - 1) ts rest (rank_of parent) (omega arith) h)
items_then kind parent end (suc n) (t ∷ ts) rest low up h = items_then kind parent end n ts rest low up h

module _ (lexemes : List Lexeme) (partners : List ℕ) where
  within_then : (n : ℕ) (l : Option Level) (rest : List Item) → Rising (n + 1) rest → Rising n (within lexemes partners n l ++ rest)
  within_then n None rest h = lower n (n + 1) rest (omega arith) h
  within_then n (Some l) rest h = items_then l.kind (Some n) l.range.behind 0 (trees_of lexemes partners l.range.first l.range.behind) rest n (omega arith) h

  children_rise : (n : ℕ) (xs : List Item) → Rising n (children_from lexemes partners n xs)
  children_rise n [] = tt
  children_rise n (x ∷ xs) = within_then n (inner_level x) (children_from lexemes partners (n + 1) xs) (children_rise (n + 1) xs)

  all_rise : (xs : List Item) → Rising 0 (top_level_of lexemes partners ++ children_from lexemes partners 0 xs)
  all_rise xs = items_then Items None (length lexemes) 0 (trees_of lexemes partners 0 (length lexemes)) (children_from lexemes partners 0 xs) 0 (omega arith) (children_rise 0 xs)

none_below : (low : ℕ) (xs : List Item) → Rising low xs → (j : ℕ) (d : Item) → j < length xs → low ≤ rank_of (get_or xs j d).parent
none_below low [] h j d there = absurd (omega arith)
none_below low (x ∷ xs) h zero d there = h.0
none_below low (x ∷ xs) h (suc j) d there = let first = h.0 in let more = none_below (rank_of x.parent) xs h.1 j d (omega arith) in omega arith

in_order : (low : ℕ) (xs : List Item) → Rising low xs → ByParent xs
in_order low [] h i j d before there = absurd (omega arith)
in_order low (x ∷ xs) h zero zero d before there = omega arith
in_order low (x ∷ xs) h zero (suc j) d before there = none_below (rank_of x.parent) xs h.1 j d (omega arith)
in_order low (x ∷ xs) h (suc i) zero d before there = absurd (omega arith)
in_order low (x ∷ xs) h (suc i) (suc j) d before there = in_order (rank_of x.parent) xs h.1 i j d (omega arith) (omega arith)

pub by_parent : (lexemes : List Lexeme) (partners : List ℕ) (items : List Item) → items ≡ top_level_of lexemes partners ++ children_from lexemes partners 0 items → ByParent items
by_parent lexemes partners items whole = subst ByParent (sym whole) (in_order 0 (top_level_of lexemes partners ++ children_from lexemes partners 0 items) (all_rise lexemes partners items))

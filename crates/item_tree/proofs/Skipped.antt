-- What is skipped of a level.
use Rattle.std.proofs.Common.{◌≡◌, ◌+◌, ◌-◌, ◌++◌, ◌<◌, ◌≤◌, ℕ, zero, suc, true, false, List, [], ◌∷◌, length, drop, get_or, refl, ap, sym, ◌∙◌, inl, inr, arith, subst, drop-cons, add-one, append_assoc}
use Rattle.std.specs.Prelude.{nat_lt}
use Rattle.std.proofs.lemmas.Bool.{lt-ltb, le-ltb, cases_lt}
use Rattle.std.proofs.lemmas.List.{drop-drop, append-nil}
use Rattle.std.proofs.Math.ListN.{drop_of_length-le}
use Rattle.item_tree.specs.Trees.{tree_of, partner_at, trees_from}
use Rattle.item_tree.specs.declared.lexer.lexeme.Lexeme.{Lexeme}
use Rattle.item_tree.specs.declared.lexer.trees.Tree.{Tree}

plus_zero : (i : ℕ) → i ≡ i + 0
plus_zero i = omega arith

plus_more : (i n : ℕ) → (i + 1) + n ≡ i + suc n
plus_more i n = omega arith

trees_skipped : (partners : List ℕ) (end n i : ℕ) (ls : List Lexeme) → trees_from partners end n i ls ≡ trees_from partners end 0 (i + n) (drop n ls)
trees_skipped partners end zero i ls = ap (λ k. trees_from partners end 0 k ls) (plus_zero i)
trees_skipped partners end (suc n) i [] = refl
trees_skipped partners end (suc n) i (l ∷ ls) = trees_skipped partners end n (i + 1) ls ∙ ap (λ k. trees_from partners end 0 k (drop n ls)) (plus_more i n)

first_tree : (partners : List ℕ) (end i : ℕ) (l : Lexeme) (ls : List Lexeme) (tree : Tree) → nat_lt i end ≡ true → tree ≡ tree_of l.kind i (partner_at partners i) end
    → trees_from partners end 0 i (l ∷ ls) ≡ tree ∷ trees_from partners end (tree.behind - (i + 1)) (i + 1) ls
first_tree partners end i l ls tree test is =
    subst (λ (t : Tree). trees_from partners end 0 i (l ∷ ls) ≡ t ∷ trees_from partners end (t.behind - (i + 1)) (i + 1) ls) (sym is) (rw test refl)

-- behind the tree that begins at a place the next begins
pub next_tree : (lexemes : List Lexeme) (partners : List ℕ) (end i partner : ℕ) (d : Lexeme) (tree : Tree) (so_far : List Tree) → i < end → i < length lexemes
    → partner ≡ partner_at partners i → tree ≡ tree_of (get_or lexemes i d).kind i partner end → i < tree.behind
    → (so_far ++ tree ∷ []) ++ trees_from partners end 0 tree.behind (drop tree.behind lexemes) ≡ so_far ++ trees_from partners end 0 i (drop i lexemes)
next_tree lexemes partners end i partner d tree so_far before there told made forward =
    let is : tree ≡ tree_of (get_or lexemes i d).kind i (partner_at partners i) end = made ∙ ap (λ p. tree_of (get_or lexemes i d).kind i p end) told in
    let next : drop i lexemes ≡ get_or lexemes i d ∷ drop (i + 1) lexemes = rw add-one (drop-cons lexemes i d there) in
    let test : nat_lt i end ≡ true = lt-ltb i end before in
    let n = tree.behind - (i + 1) in
    let behind : (i + 1) + n ≡ tree.behind = omega arith in
    let skipped : trees_from partners end n (i + 1) (drop (i + 1) lexemes) ≡ trees_from partners end 0 tree.behind (drop tree.behind lexemes)
    = trees_skipped partners end n (i + 1) (drop (i + 1) lexemes) ∙ (ap (λ ls. trees_from partners end 0 ((i + 1) + n) ls) (drop-drop n (i + 1) lexemes) ∙ ap (λ k. trees_from partners end 0 k (drop k lexemes)) behind) in
    append_assoc so_far (tree ∷ []) (trees_from partners end 0 tree.behind (drop tree.behind lexemes))
    ∙ ap (λ ts. so_far ++ ts)
    (ap (λ ts. tree ∷ ts) (sym skipped) ∙ (sym (first_tree partners end i (get_or lexemes i d) (drop (i + 1) lexemes) tree test is) ∙ ap (λ ls. trees_from partners end 0 i ls) (sym next)))

nothing_left : (partners : List ℕ) (end i : ℕ) (ls : List Lexeme) → end ≤ i → trees_from partners end 0 i ls ≡ []
nothing_left partners end i [] h = refl
nothing_left partners end i (l ∷ ls) h = let test : nat_lt i end ≡ false = le-ltb i end h in rw test refl

-- at the end, or behind the last lexeme, all trees are read
pub all_trees : (lexemes : List Lexeme) (partners : List ℕ) (end i : ℕ) (found wanted : List Tree) → (i < end → length lexemes ≤ i) → found ++ trees_from partners end 0 i (drop i lexemes) ≡ wanted → found ≡ wanted
all_trees lexemes partners end i found wanted h read =
    sym (append-nil found) ∙ (ap (λ ts. found ++ ts) (sym nothing) ∙ read)
  where
    nothing : trees_from partners end 0 i (drop i lexemes) ≡ []
    nothing = elim (cases_lt i end) [
      | inl before ↦ ap (λ ls. trees_from partners end 0 i ls) (drop_of_length-le lexemes (h before))
      | inr behind ↦ nothing_left partners end i (drop i lexemes) behind
    ]

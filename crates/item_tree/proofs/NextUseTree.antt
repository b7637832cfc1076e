-- Behind what is read of a `use` item the rest is read.
use Rattle.std.proofs.Common.{◌≡◌, ◌+◌, ◌-◌, ◌<◌, ◌≤◌, ℕ, zero, suc, true, false, List, [], ◌∷◌, length, drop, refl, ap, sym, ◌∙◌, inl, inr, arith, length-drop}
use Rattle.std.specs.Prelude.{Option, nat_lt}
use Rattle.std.proofs.lemmas.Bool.{lt-ltb, le-ltb, cases_lt}
use Rattle.std.proofs.lemmas.List.{drop-drop}
use Rattle.std.proofs.Math.ListN.{drop_of_length-le}
use Rattle.item_tree.specs.UseTrees.{step_of, with_tree, use_trees_from}
use Rattle.item_tree.specs.declared.lexer.lexeme.Lexeme.{Lexeme}
use Rattle.item_tree.specs.declared.items.use_tree.Step.{Step}
use Rattle.item_tree.specs.declared.items.use_tree.UseTree.{UseTree}

no_further : (i : ℕ) → i ≡ i + 0
no_further i = omega arith

one_further : (i n : ℕ) → (i + 1) + n ≡ i + suc n
one_further i n = omega arith

use_trees_skipped : (end : ℕ) (trees : List UseTree) (parent : Option ℕ) (n i : ℕ) (ls : List Lexeme) → use_trees_from end trees parent n i ls ≡ use_trees_from end trees parent 0 (i + n) (drop n ls)
use_trees_skipped end trees parent zero i ls = ap (λ k. use_trees_from end trees parent 0 k ls) (no_further i)
use_trees_skipped end trees parent (suc n) i [] = refl
use_trees_skipped end trees parent (suc n) i (l ∷ ls) = use_trees_skipped end trees parent n (i + 1) ls ∙ ap (λ k. use_trees_from end trees parent 0 k (drop n ls)) (one_further i n)

-- one step at the first of some lexemes
pub one_step : (end : ℕ) (trees : List UseTree) (parent : Option ℕ) (i : ℕ) (ls : List Lexeme) (s : Step) → 0 < length ls → i < end → s ≡ step_of trees parent i ls → i < s.behind
    → use_trees_from end trees parent 0 i ls ≡ use_trees_from end (with_tree trees s.tree) s.parent 0 s.behind (drop (s.behind - i) ls)
one_step end trees parent i [] s some before is forward = absurd (omega arith)
one_step end trees parent i (l ∷ ls) s some before is forward =
    let test : nat_lt i end ≡ true = lt-ltb i end before in
    let n = s.behind - (i + 1) in
    let there : (i + 1) + n ≡ s.behind = omega arith in
    let more : s.behind - i ≡ suc n = omega arith in
    let read : use_trees_from end trees parent 0 i (l ∷ ls) ≡ use_trees_from end (with_tree trees s.tree) s.parent n (i + 1) ls
    = rw test (ap (λ (t : Step). use_trees_from end (with_tree trees t.tree) t.parent (t.behind - (i + 1)) (i + 1) ls) (sym is)) in
    read
    ∙ (use_trees_skipped end (with_tree trees s.tree) s.parent n (i + 1) ls
    ∙ (ap (λ k. use_trees_from end (with_tree trees s.tree) s.parent 0 k (drop n ls)) there ∙ ap (λ k. use_trees_from end (with_tree trees s.tree) s.parent 0 s.behind (drop k (l ∷ ls))) (sym more)))

pub next_use_tree : (lexemes seen : List Lexeme) (end : ℕ) (trees shown more : List UseTree) (parent : Option ℕ) (i : ℕ) (s : Step) → i < length lexemes → i < end → seen ≡ drop i lexemes
    → shown ≡ trees → s ≡ step_of shown parent i seen → i < s.behind → more ≡ with_tree trees s.tree
    → use_trees_from end more s.parent 0 s.behind (drop s.behind lexemes) ≡ use_trees_from end trees parent 0 i (drop i lexemes)
next_use_tree lexemes seen end trees shown more parent i s within before same same_trees is forward added =
    let some : 0 < length (drop i lexemes) = omega (arith, length-drop i lexemes) in
    let whole : s ≡ step_of trees parent i (drop i lexemes) = is ∙ (ap (λ ts. step_of ts parent i seen) same_trees ∙ ap (λ ls. step_of trees parent i ls) same) in
    let there : i + (s.behind - i) ≡ s.behind = omega arith in
    let moved : drop (s.behind - i) (drop i lexemes) ≡ drop s.behind lexemes = drop-drop (s.behind - i) i lexemes ∙ ap (λ k. drop k lexemes) there in
    ap (λ ts. use_trees_from end ts s.parent 0 s.behind (drop s.behind lexemes)) added
    ∙ (ap (λ ls. use_trees_from end (with_tree trees s.tree) s.parent 0 s.behind ls) (sym moved) ∙ sym (one_step end trees parent i (drop i lexemes) s some before whole forward))

pub nothing_read : (end : ℕ) (trees : List UseTree) (parent : Option ℕ) (i : ℕ) (ls : List Lexeme) → end ≤ i → use_trees_from end trees parent 0 i ls ≡ trees
nothing_read end trees parent i [] h = refl
nothing_read end trees parent i (l ∷ ls) h = let test : nat_lt i end ≡ false = le-ltb i end h in rw test refl

-- at the end, or behind the last lexeme, all is read
pub all_use_trees : (lexemes : List Lexeme) (end : ℕ) (trees wanted : List UseTree) (parent : Option ℕ) (i : ℕ) → (i < end → length lexemes ≤ i)
    → use_trees_from end trees parent 0 i (drop i lexemes) ≡ wanted → trees ≡ wanted
all_use_trees lexemes end trees wanted parent i h read = sym nothing ∙ read
  where
    nothing : use_trees_from end trees parent 0 i (drop i lexemes) ≡ trees
    nothing = elim (cases_lt i end) [
      | inl before ↦ ap (λ ls. use_trees_from end trees parent 0 i ls) (drop_of_length-le lexemes (h before))
      | inr behind ↦ nothing_read end trees parent i (drop i lexemes) behind
    ]

-- Tables of jump pointers (ladders), with one more and one less.
use Rattle.std.proofs.Common.{◌≡◌, ◌<◌, ℕ, zero, suc, List, [], ◌∷◌, ◌++◌, Some, length, slice_get, slice_index, ◌⊎◌, inl, inr, sym, ap, ◌∙◌, refl, subst, arith}
use Rattle.std.specs.Option.{option_map_or}
use Rattle.std.proofs.lemmas.Option.{slice_get_within}
use Rattle.dm_maps.specs.JumpPointers.{IsLadder, AreLadders}
use Rattle.dm_maps.specs.declared.ladders.Ladder.{Ladder}

-- an element of a list with one more at its end is one of the list, or the new one
get-push : {X : Type 0} (xs : List X) (x : X) (i : ℕ) (y : X) → slice_get (xs ++ x ∷ []) i ≡ Some y → (slice_get xs i ≡ Some y) ⊎ ((i ≡ length xs) × (x ≡ y))
get-push [] x zero y h = inr (refl, cc)
get-push [] x (suc i) y h = cc
get-push (z ∷ zs) x zero y h = inl h
get-push (z ∷ zs) x (suc i) y h = elim (get-push zs x i y h) [ inl e ↦ inl e | inr e ↦ inr (ap suc e.0, e.1) ]

-- the elements of a list stay where more come after them
get-append : {X : Type 0} (xs ys : List X) (i : ℕ) → i < length xs → slice_get (xs ++ ys) i ≡ slice_get xs i
get-append [] ys i h = absurd (omega arith)
get-append (x ∷ xs) ys zero h = refl
get-append (x ∷ xs) ys (suc i) h = get-append xs ys i (omega arith)

-- a ladder is one among other ladders, where those before it are the same
ladder-among : (ls ms : List Ladder) (m : ℕ) (l : Ladder) → ((c : ℕ) → c < m → slice_get ms c ≡ slice_get ls c) → IsLadder ls m l → IsLadder ms m l
ladder-among ls ms m l same is = record {
  long = is.long;
  shallow = is.shallow;
  outmost = is.outmost;
  below = λ deep.
      let b = is.below deep in record {
        smaller = b.smaller;
        deeper = b.deeper ∙ sym (ap (λ o. suc (option_map_or (λ (x : Ladder). x.depth) o 0)) (same (slice_index l.entries 0) (b.smaller 0 (omega arith))));
        entries = λ k less. b.entries k less ∙ sym (ap (λ o. option_map_or (λ (x : Ladder). slice_index x.entries k) o 0) (same (slice_index l.entries k) (b.smaller k (omega arith))));
      };
}

-- with one more
pub AreLadders-push : (ls : List Ladder) (l : Ladder) → AreLadders ls → IsLadder ls (length ls) l → AreLadders (ls ++ l ∷ [])
AreLadders-push ls l are is = record {
  each = λ m x e. (elim (get-push ls l m x e) [
    | inl g ↦ let less = slice_get_within ls m x g in ladder-among ls (ls ++ l ∷ []) m x (λ c h. get-append ls (l ∷ []) c (omega arith)) (are.each m x g)
    | inr g ↦ subst (IsLadder (ls ++ l ∷ []) m) g.1 (subst (λ i. IsLadder (ls ++ l ∷ []) i l) (sym g.0) (ladder-among ls (ls ++ l ∷ []) (length ls) l (λ c h. get-append ls (l ∷ []) c h) is))
  ]);
}

-- without those behind
pub AreLadders-front : (ls ms : List Ladder) → AreLadders (ls ++ ms) → AreLadders ls
AreLadders-front ls ms are = record {
  each = λ m x e. (
      let less = slice_get_within ls m x e in
      ladder-among (ls ++ ms) ls m x (λ c h. sym (get-append ls ms c (omega arith))) (are.each m x (get-append ls ms m less ∙ e)));
}

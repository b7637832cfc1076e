-- The unresolved ones among the first imports, and one more.
use Rattle.std.proofs.Common.{◌≡◌, ◌∙◌, ◌+◌, ◌++◌, ◌<◌, ◌≤◌, ◌⊎◌, inl, inr, arith, ℕ, zero, suc, Bool, true, false, cond, get_or, length, List, [], ◌∷◌, None, Some, ap, refl, slice_get, sym, take}
use Rattle.std.proofs.Math.Bool.{beq}
use Rattle.std.specs.Option.{option_eq, option_map}
use Rattle.std.proofs.lemmas.Option.{slice_get_cases}
use Rattle.dm_maps.specs.World.{World}
use Rattle.dm_retry.specs.Rounds.{Pending, State, finds_nothing, unresolved_from}

abbrev one-more : Bool → ℕ → List ℕ
one-more b i = cond b (i ∷ []) []

pub unresolved-more : (w : World) (k i : ℕ) (ps : List Pending) (p : Pending) → slice_get ps i ≡ Some p
    → unresolved_from w k (take (suc i) ps) ≡ unresolved_from w k (take i ps) ++ one-more (finds_nothing w p) (k + i)
unresolved-more w k i [] p at = cc
unresolved-more w k zero (q ∷ ps) p at =
    let same : q ≡ p = cc in
    let sum : k ≡ k + zero = omega arith in
    first (finds_nothing w q) ∙ ap (λ x. one-more (finds_nothing w x) k) same ∙ ap (one-more (finds_nothing w p)) sum
  where
    first : (b : Bool) → cond b (k ∷ []) [] ≡ one-more b k
    first true = refl
    first false = refl
unresolved-more w k (suc i) (q ∷ ps) p at =
    let sum : (k + 1) + i ≡ k + suc i = omega arith in
    step (finds_nothing w q) _ _ _ (unresolved-more w (k + 1) i ps p at ∙ ap (λ n. unresolved_from w (k + 1) (take i ps) ++ one-more (finds_nothing w p) n) sum)
  where
    step : (b : Bool) (xs ys zs : List ℕ) → xs ≡ ys ++ zs → cond b (k ∷ xs) xs ≡ cond b (k ∷ ys) ys ++ zs
    step true xs ys zs e = ap (λ l. k ∷ l) e
    step false xs ys zs e = e

-- One place more, which is listed where the code's test is true.
pub listed-more : (s : State) (i : ℕ) → i < length s.pending → (b : Bool) → b ≡ option_eq beq (option_map (finds_nothing s.world) (slice_get s.pending i)) (Some true)
    → unresolved_from s.world 0 (take (i + 1) s.pending) ≡ unresolved_from s.world 0 (take i s.pending) ++ one-more b i
listed-more s i within b is = by ((slice_get_cases s.pending i).1)
  where
    itself : (x : Bool) → beq x true ≡ x
    itself true = refl
    itself false = refl

    by : ((x : Pending) × (i < length s.pending) × (slice_get s.pending i ≡ Some x) × (get_or s.pending i x ≡ x)) ⊎ ((length s.pending ≤ i) × (slice_get s.pending i ≡ None))
        → unresolved_from s.world 0 (take (i + 1) s.pending) ≡ unresolved_from s.world 0 (take i s.pending) ++ one-more b i
    by (inl (x, l, at, same)) =
        let next : i + 1 ≡ suc i = omega arith in
        let first : 0 + i ≡ i = omega arith in
        let to_push : finds_nothing s.world x ≡ b = sym (is ∙ ap (λ o. option_eq beq (option_map (finds_nothing s.world) o) (Some true)) at ∙ itself (finds_nothing s.world x)) in
        ap (λ n. unresolved_from s.world 0 (take n s.pending)) next ∙ unresolved-more s.world 0 i s.pending x at
        ∙ (λ k. unresolved_from s.world 0 (take i s.pending) ++ one-more (to_push k) (first k))
    by (inr (l, none)) = absurd (omega (arith, l, within))

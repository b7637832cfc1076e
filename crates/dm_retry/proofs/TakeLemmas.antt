-- A try of an import that was taken from the worklist: it is the import of before but for its mark, which is not read.
use Rattle.std.proofs.Common.{◌≡◌, ◌∙◌, ◌<◌, ◌≤◌, ◌⊎◌, inl, inr, ℕ, Bool, true, false, List, [], None, Some, ap, arith, get_or, if◌then◌else◌, length, map, slice_get, slice_set, sym}
use Rattle.std.proofs.lemmas.List.{get_or-set_same}
use Rattle.std.proofs.lemmas.Option.{slice_get_cases}
use Rattle.std.specs.Option.{option_map_or}
use Rattle.dm_scope.specs.Flags.{Globs}
use Rattle.dm_maps.specs.World.{World}
use Rattle.dm_retry.specs.Rounds.{Pending, awoken, would_write, to_push, globs_with, marked, marked_after, marked_at, name_at, world_after}
use Rattle.dm_retry.proofs.ListLemmas.{get-put_here, put-put}

-- q, at place i of the worklist qs once the import there is taken, is p, which was there in ps
pub record Taken (ps qs : List Pending) (i : ℕ) (q : Pending) : Type 0 where
  pub p : Pending
  pub at : slice_get ps i ≡ Some p
  pub is : q ≡ marked false p
  pub put : qs ≡ slice_set ps i (marked false p)

pub taken : (ps qs : List Pending) (i : ℕ) (q : Pending) → i < length ps → qs ≡ marked_at ps i false → q ≡ get_or qs i q → Taken ps qs i q
taken ps qs i q within marks is = by (slice_get_cases ps i).1
  where
    by : ((x : Pending) × (i < length ps) × (slice_get ps i ≡ Some x) × (get_or ps i x ≡ x)) ⊎ ((length ps ≤ i) × (slice_get ps i ≡ None)) → Taken ps qs i q
    by (inl h) = let put = marks ∙ ap (λ o. option_map_or (λ p. slice_set ps i (marked false p)) o ps) h.2 in record {
      p = h.0;
      at = h.2;
      is = is ∙ ap (λ (l : List Pending). get_or l i q) put ∙ get_or-set_same ps i (marked false h.0) q within;
      put = put;
    }
    by (inr h) = absurd (omega (arith, h.0))

-- the same push, and what it leaves
module _ (w : World) (g : Globs) (p q : Pending) (is : q ≡ marked false p) where
  pub same-world : world_after w g q (to_push w q) ≡ world_after w g p (to_push w p)
  unfolding to_push
  same-world = ap (λ z. world_after w g z (to_push w z)) is

  pub same-globs : globs_with w g q (to_push w q) ≡ globs_with w g p (to_push w p)
  unfolding to_push
  same-globs = ap (λ z. globs_with w g z (to_push w z)) is

  pub same-would_write : would_write w g q ≡ would_write w g p
  unfolding to_push
  same-would_write = ap (would_write w g) is

module _ (ps qs : List Pending) (i : ℕ) (q : Pending) (t : Taken ps qs i q) where
  there : slice_get qs i ≡ Some (marked false t.p)
  there = ap (λ l. slice_get l i) t.put ∙ get-put_here ps i t.p (marked false t.p) t.at

  -- the worklist where the import is put back
  pub back : marked_at qs i true ≡ marked_at ps i true
  back =
      ap (λ o. option_map_or (λ p. slice_set qs i (marked true p)) o qs) there
      ∙ ap (λ (l : List Pending). slice_set l i (marked true t.p)) t.put
      ∙ put-put ps i (marked false t.p) (marked true t.p)
      ∙ sym (ap (λ o. option_map_or (λ p. slice_set ps i (marked true p)) o ps) t.at)

  -- and after the try
  pub wakes : (rs : List Pending) (b : Bool) → rs ≡ (if b then map (awoken (name_at qs i)) qs else qs) → rs ≡ marked_after ps i b
  wakes rs b is = is ∙ by b
    where
      marks : qs ≡ marked_at ps i false
      marks = t.put ∙ sym (ap (λ o. option_map_or (λ p. slice_set ps i (marked false p)) o ps) t.at)

      name : name_at qs i ≡ name_at ps i
      name = ap (λ o. option_map_or (λ (p : Pending). p.name) o []) there ∙ sym (ap (λ o. option_map_or (λ (p : Pending). p.name) o []) t.at)

      by : (c : Bool) → (if c then map (awoken (name_at qs i)) qs else qs) ≡ marked_after ps i c
      by true = λ k. map (awoken (name k)) (marks k)
      by false = marks

-- What a list binds to a name depends only on the pushes of that name, and explicit names shadow globs.
use Rattle.std.proofs.Common.{◌≡◌, ℕ, ◌+◌, Bool, true, false, cond, ◌&&◌, ◌||◌, List, [], ◌∷◌, filter, slice_get, Option, None, Some, refl, sym, ap, ◌∙◌, true≢false}
use Rattle.std.specs.Prelude.{map}
use Rattle.std.specs.Option.{option_map}
use Rattle.std.specs.List.{list_all, list_any, enumerate_from}
use Rattle.dm_base.specs.Names.{Name, same_name}
use Rattle.dm_scope.specs.Shadowing.{Reading}
use Rattle.dm_scope.specs.Pushes.{Push, of_name, is_explicit, is_by, has_same_def, last_run, named_explicit, named_of, named, named_push, item_of, binding, IsByName}

module _ {D I : Type 0} where
  -- a push at the first place, and a push taken there
  abbrev at_first : Push D I → ℕ × Push D I
  at_first p = (0, p)

  abbrev to_first : ℕ × Push D I → ℕ × Push D I
  to_first p = (0, p.1)

  list_all-to_first : (t : Push D I → Bool) (ps : List (ℕ × Push D I)) → list_all (λ p. t p.1) (map to_first ps) ≡ list_all (λ p. t p.1) ps
  list_all-to_first t [] = refl
  list_all-to_first t (p ∷ ps) = ap (λ b. t p.1 && b) (list_all-to_first t ps)

  filter-to_first : (t : Push D I → Bool) (ps : List (ℕ × Push D I)) → filter (λ p. t p.1) (map to_first ps) ≡ map to_first (filter (λ p. t p.1) ps)
  filter-to_first t [] = refl
  filter-to_first t (p ∷ ps) = ap (λ l. cond (t p.1) (to_first p ∷ l) l) (filter-to_first t ps) ∙ by (t p.1)
    where
      by : (b : Bool) → cond b (to_first p ∷ map to_first (filter (λ q. t q.1) ps)) (map to_first (filter (λ q. t q.1) ps)) ≡ map to_first (cond b (p ∷ filter (λ q. t q.1) ps) (filter (λ q. t q.1) ps))
      by true = refl
      by false = refl

  filter-at_first : (t : Push D I → Bool) (ps : List (Push D I)) → filter (λ p. t p.1) (map at_first ps) ≡ map at_first (filter t ps)
  filter-at_first t [] = refl
  filter-at_first t (p ∷ ps) = ap (λ l. cond (t p) (at_first p ∷ l) l) (filter-at_first t ps) ∙ by (t p)
    where
      by : (b : Bool) → cond b (at_first p ∷ map at_first (filter t ps)) (map at_first (filter t ps)) ≡ map at_first (cond b (p ∷ filter t ps) (filter t ps))
      by true = refl
      by false = refl

  get-to_first : (ps : List (ℕ × Push D I)) → slice_get (map to_first ps) 0 ≡ option_map to_first (slice_get ps 0)
  get-to_first [] = refl
  get-to_first (p ∷ ps) = refl

  -- the pushes of a name, without their places in the list
  kept-to_first : (n : Name) (k : ℕ) (ps : List (Push D I)) → map to_first (filter (λ p. same_name n p.1.name) (enumerate_from k ps)) ≡ map at_first (of_name n ps)
  kept-to_first n k [] = refl
  kept-to_first n k (p ∷ ps) = by (same_name n p.name) (kept-to_first n (k + 1) ps)
    where
      by : (b : Bool) → map to_first (filter (λ q. same_name n q.1.name) (enumerate_from (k + 1) ps)) ≡ map at_first (of_name n ps)
          → map to_first (cond b ((k, p) ∷ filter (λ q. same_name n q.1.name) (enumerate_from (k + 1) ps)) (filter (λ q. same_name n q.1.name) (enumerate_from (k + 1) ps))) ≡ map at_first (cond b (p ∷ of_name n ps) (of_name n ps))
      by true h = ap (λ l. (0, p) ∷ l) h
      by false h = h

  module _ (r : Reading D I) where
    last_run-to_first : (ps : List (ℕ × Push D I)) → last_run r (map to_first ps) ≡ option_map to_first (last_run r ps)
    last_run-to_first [] = refl
    last_run-to_first (p ∷ ps) =
        (λ i. cond (list_all-to_first (has_same_def r p.1) ps i) (Some (to_first p)) (last_run-to_first ps i))
        ∙ by (list_all (λ q. has_same_def r p.1 q.1) ps)
      where
        by : (b : Bool) → cond b (Some (to_first p)) (option_map to_first (last_run r ps)) ≡ option_map to_first (cond b (Some p) (last_run r ps))
        by true = refl
        by false = refl

    named_explicit-to_first : (e : ℕ × Push D I) (by : Option I) (es : List (ℕ × Push D I))
        → named_explicit r (to_first e) by (map to_first es) ≡ option_map to_first (named_explicit r e by es)
    named_explicit-to_first e None es = refl
    named_explicit-to_first e (Some i) es = ap (last_run r) (filter-to_first (is_by r i) es) ∙ last_run-to_first (filter (λ p. is_by r i p.1) es)

    named_of-to_first : (o : Option (ℕ × Push D I)) (es : List (ℕ × Push D I)) → named_of r (option_map to_first o) (map to_first es) ≡ option_map to_first (named_of r o es)
    named_of-to_first o [] = refl
    named_of-to_first o (e ∷ es) = named_explicit-to_first e e.1.by (e ∷ es)

    named-to_first : (ps : List (ℕ × Push D I)) → named r (map to_first ps) ≡ option_map to_first (named r ps)
    named-to_first ps =
        (λ i. named_of r (get-to_first ps i) (filter-to_first (is_explicit r) ps i))
        ∙ named_of-to_first (slice_get ps 0) (filter (λ p. is_explicit r p.1) ps)

    item_of-to_first : (o : Option (ℕ × Push D I)) → item_of r (option_map to_first o) ≡ item_of r o
    item_of-to_first None = refl
    item_of-to_first (Some p) = refl

    -- the places of pushes count for nothing in what is bound
    binding-of_name : (ps : List (Push D I)) (n : Name) → binding r ps n ≡ item_of r (named r (map at_first (of_name n ps)))
    binding-of_name ps n =
        sym (item_of-to_first (named_push r ps n))
        ∙ ap (item_of r) (sym (named-to_first (filter (λ p. same_name n p.1.name) (enumerate_from 0 ps))) ∙ ap (named r) (kept-to_first n 0 ps))

    explicit-of_name : (n : Name) (ps : List (Push D I)) → filter (is_explicit r) (of_name n (filter (is_explicit r) ps)) ≡ filter (is_explicit r) (of_name n ps)
    explicit-of_name n [] = refl
    explicit-of_name n (p ∷ ps) = by (is_explicit r p) (same_name n p.name) refl refl (explicit-of_name n ps)
      where
        by : (e b : Bool) → is_explicit r p ≡ e → same_name n p.name ≡ b
            → filter (is_explicit r) (of_name n (filter (is_explicit r) ps)) ≡ filter (is_explicit r) (of_name n ps)
            → filter (is_explicit r) (of_name n (cond e (p ∷ filter (is_explicit r) ps) (filter (is_explicit r) ps))) ≡ filter (is_explicit r) (cond b (p ∷ of_name n ps) (of_name n ps))
        by true true explicit own h =
            ap (λ b. filter (is_explicit r) (cond b (p ∷ of_name n (filter (is_explicit r) ps)) (of_name n (filter (is_explicit r) ps)))) own
            ∙ ap (λ l. cond (is_explicit r p) (p ∷ l) l) h
        by true false explicit own h =
            ap (λ b. filter (is_explicit r) (cond b (p ∷ of_name n (filter (is_explicit r) ps)) (of_name n (filter (is_explicit r) ps)))) own ∙ h
        by false true explicit own h =
            h ∙ ap (λ b. cond b (p ∷ filter (is_explicit r) (of_name n ps)) (filter (is_explicit r) (of_name n ps))) (sym explicit)
        by false false explicit own h = h

    -- where a push is explicit, the first push of all counts for nothing
    named_of-explicit : (ps : List (Push D I)) → list_any (is_explicit r) ps ≡ true → (o q : Option (ℕ × Push D I))
        → named_of r o (map at_first (filter (is_explicit r) ps)) ≡ named_of r q (map at_first (filter (is_explicit r) ps))
    named_of-explicit [] h o q = absurd (true≢false (sym h))
    named_of-explicit (p ∷ ps) h o q = by (is_explicit r p) h (λ k. named_of-explicit ps k o q)
      where
        by : (e : Bool) → (e || list_any (is_explicit r) ps) ≡ true
            → (list_any (is_explicit r) ps ≡ true → named_of r o (map at_first (filter (is_explicit r) ps)) ≡ named_of r q (map at_first (filter (is_explicit r) ps)))
            → named_of r o (map at_first (cond e (p ∷ filter (is_explicit r) ps) (filter (is_explicit r) ps))) ≡ named_of r q (map at_first (cond e (p ∷ filter (is_explicit r) ps) (filter (is_explicit r) ps)))
        by true h rest = refl
        by false h rest = rest h

    pub is_by_name : (n : Name) → IsByName r n
    is_by_name n = record {
      own = λ ps qs same. binding-of_name ps n ∙ ap (λ l. item_of r (named r (map at_first l))) same ∙ sym (binding-of_name qs n);
      without_globs = λ ps some.
          binding-of_name (filter (is_explicit r) ps) n
          ∙ ap (item_of r) (ap (named_of r (slice_get (map at_first (of_name n (filter (is_explicit r) ps))) 0))
          (filter-at_first (is_explicit r) (of_name n (filter (is_explicit r) ps)) ∙ ap (map at_first) (explicit-of_name n ps))
          ∙ named_of-explicit (of_name n ps) some (slice_get (map at_first (of_name n (filter (is_explicit r) ps))) 0) (slice_get (map at_first (of_name n ps)) 0)
          ∙ ap (named_of r (slice_get (map at_first (of_name n ps)) 0)) (sym (filter-at_first (is_explicit r) (of_name n ps))))
          ∙ sym (binding-of_name ps n);
    }

-- What one more push does to what a whole list of pushes names.
use Rattle.std.proofs.Common.{◌≡◌, ℕ, Bool, true, false, cond, not, ◌&&◌, ◌||◌, List, [], ◌∷◌, ◌++◌, filter, append-nil, slice_get, Option, None, Some, IfSome, refl, sym, ap, subst, ◌∙◌, true≢false}
use Rattle.std.proofs.lemmas.Bool.{and_parts, not-true}
use Rattle.std.specs.List.{list_all}
use Rattle.std.proofs.lemmas.List.Elements.{filter-append}
use Rattle.std.proofs.lemmas.List.Folds.{list_all-append}
use Rattle.std.proofs.Math.Bool.{and-true}
use Rattle.dm_scope.specs.Shadowing.{Reading, is_glob, is_same, writes}
use Rattle.dm_scope.specs.Pushes.{last_of, Push, is_explicit, is_by, has_same_def, last_run, named_explicit, named_of, named, item_of, is_glob_push}

-- that the tests of a namespace find equal values
pub record IsReading {D I : Type 0} (r : Reading D I) : Type 0 where
  pub import_refl : (i : I) → r.same_import i i ≡ true
  pub import_same : (i j : I) → r.same_import i j ≡ true → i ≡ j
  pub def_refl : (d : D) → r.same_def d d ≡ true
  pub def_same : (d e : D) → r.same_def d e ≡ true → d ≡ e

abbrev or_this : {X : Type 0} → Option X → X → Option X
or_this None x = Some x
or_this (Some q) x = Some q

first-push : {X : Type 0} (xs : List X) (x : X) → slice_get (xs ++ x ∷ []) 0 ≡ or_this (slice_get xs 0) x
first-push [] x = refl
first-push (y ∷ ys) x = refl

pub last-push : {X : Type 0} (xs : List X) (x : X) → last_of (xs ++ x ∷ []) ≡ Some x
last-push [] x = refl
last-push (y ∷ []) x = refl
last-push (y ∷ z ∷ zs) x = last-push (z ∷ zs) x

module _ {D I : Type 0} (r : Reading D I) (law : IsReading r) where
  -- the last run's first push passes what every push passes
  pub last_run-all : (t : ℕ × Push D I → Bool) (ps : List (ℕ × Push D I)) → list_all t ps ≡ true → IfSome (last_run r ps) (λ q. t q ≡ true)
  last_run-all t [] h = tt
  last_run-all t (p ∷ ps) h = by (list_all (λ q. has_same_def r p.1 q.1) ps) (last_run-all t ps ((and_parts (t p) _ h).1))
    where
      by : (b : Bool) → IfSome (last_run r ps) (λ q. t q ≡ true) → IfSome (cond b (Some p) (last_run r ps)) (λ q. t q ≡ true)
      by true rest = (and_parts (t p) _ h).0
      by false rest = rest

  abbrev after_run : Option (ℕ × Push D I) → ℕ × Push D I → Option (ℕ × Push D I)
  after_run None x = Some x
  after_run (Some q) x = cond (has_same_def r q.1 x.1) (Some q) (Some x)

  last_run-push : (ps : List (ℕ × Push D I)) (x : ℕ × Push D I) → last_run r (ps ++ x ∷ []) ≡ after_run (last_run r ps) x
  last_run-push [] x = refl
  last_run-push (p ∷ ps) x =
      ap (λ b. cond b (Some p) (last_run r (ps ++ x ∷ []))) (list_all-append (λ q. has_same_def r p.1 q.1) ps (x ∷ []) ∙ ap (λ b. list_all (λ q. has_same_def r p.1 q.1) ps && b) (and-true _))
      ∙ ap (λ o. cond (list_all (λ q. has_same_def r p.1 q.1) ps && has_same_def r p.1 x.1) (Some p) o) (last_run-push ps x)
      ∙ by (list_all (λ q. has_same_def r p.1 q.1) ps) refl
    where
      other : (o : Option (ℕ × Push D I)) → IfSome o (λ q. has_same_def r p.1 q.1 ≡ true) → has_same_def r p.1 x.1 ≡ false → after_run o x ≡ Some x
      other None h e = refl
      other (Some q) h e = ap (λ b. cond b (Some q) (Some x)) (ap (λ d. r.same_def d x.1.item.def) (sym (law.def_same _ _ h)) ∙ e)

      new : (b : Bool) → has_same_def r p.1 x.1 ≡ b → IfSome (last_run r ps) (λ q. has_same_def r p.1 q.1 ≡ true) → cond b (Some p) (after_run (last_run r ps) x) ≡ cond b (Some p) (Some x)
      new true e h = refl
      new false e h = other (last_run r ps) h e

      by : (b : Bool) → list_all (λ q. has_same_def r p.1 q.1) ps ≡ b → cond (b && has_same_def r p.1 x.1) (Some p) (after_run (last_run r ps) x) ≡ after_run (cond b (Some p) (last_run r ps)) x
      by true e = new (has_same_def r p.1 x.1) refl (last_run-all (λ q. has_same_def r p.1 q.1) ps e)
      by false e = refl

  last_run-some : (p : ℕ × Push D I) (ps : List (ℕ × Push D I)) → (q : ℕ × Push D I) × (last_run r (p ∷ ps) ≡ Some q)
  last_run-some p [] = (p, refl)
  last_run-some p (x ∷ xs) = by (list_all (λ q. has_same_def r p.1 q.1) (x ∷ xs)) (last_run-some x xs)
    where
      by : (b : Bool) → (q : ℕ × Push D I) × (last_run r (x ∷ xs) ≡ Some q) → (q : ℕ × Push D I) × (cond b (Some p) (last_run r (x ∷ xs)) ≡ Some q)
      by true rest = (p, refl)
      by false rest = rest

  -- what the named push becomes by one more push of the name
  abbrev pub after : Option (ℕ × Push D I) → ℕ × Push D I → Option (ℕ × Push D I)
  after o x = cond (writes r (item_of r o) (is_glob_push r o) x.1.item x.1.by) (Some x) o

  alone : (x : ℕ × Push D I) (o : Option I) → x.1.by ≡ o → named_explicit r x o (x ∷ []) ≡ Some x
  alone x None is = refl
  alone x (Some i) is = ap (λ b. last_run r (cond b (x ∷ []) [])) (ap (is_same r (Some i)) is ∙ law.import_refl i)

  alone_named : (x : ℕ × Push D I) (b : Bool) → named_of r (Some x) (cond b (x ∷ []) []) ≡ Some x
  alone_named x true = alone x x.1.by refl
  alone_named x false = refl

  none_explicit : (o : Option (ℕ × Push D I)) (x : ℕ × Push D I) → IfSome o (λ q. is_glob r q.1.by ≡ true)
      → named_of r (or_this o x) (cond (is_explicit r x.1) (x ∷ []) []) ≡ after o x
  none_explicit None x h = alone_named x (is_explicit r x.1)
  none_explicit (Some q) x h =
      by (is_explicit r x.1)
      ∙ ap (λ g. cond (is_explicit r x.1 && (g || (is_same r q.1.by x.1.by && not (has_same_def r q.1 x.1)))) (Some x) (Some q)) (sym h)
    where
      by : (b : Bool) → named_of r (Some q) (cond b (x ∷ []) []) ≡ cond (b && true) (Some x) (Some q)
      by true = alone x x.1.by refl
      by false = refl

  and-false : (a b : Bool) → (a && (false && b)) ≡ false
  and-false true b = refl
  and-false false b = refl

  -- an import equal to a given one is it
  is_same-is : (i : I) (o : Option I) → is_same r (Some i) o ≡ true → o ≡ Some i
  is_same-is i None h = absurd (true≢false (sym h))
  is_same-is i (Some j) h = ap (λ k. Some k) (sym (law.import_same i j h))

  pub is_same-turned : (o p : Option I) → is_same r o p ≡ false → is_same r p o ≡ false
  is_same-turned None None h = refl
  is_same-turned None (Some j) h = refl
  is_same-turned (Some i) None h = refl
  is_same-turned (Some i) (Some j) h = by (r.same_import j i) refl
    where
      by : (b : Bool) → r.same_import j i ≡ b → b ≡ false
      by true e = sym (law.import_refl j) ∙ ap (λ k. r.same_import k j) (law.import_same j i e) ∙ h
      by false e = refl

  -- among the pushes by one import, which is no glob
  renewed : (i : I) (x q : ℕ × Push D I) → r.globs i ≡ false → q.1.by ≡ Some i → (b : Bool) → is_by r i x.1 ≡ b
      → cond b (after_run (Some q) x) (Some q) ≡ after (Some q) x
  renewed i x q plain is b e =
      by b e (has_same_def r q.1 x.1)
      ∙ ap (λ g. cond (is_explicit r x.1 && (g || (is_same r (Some i) x.1.by && not (has_same_def r q.1 x.1)))) (Some x) (Some q)) (sym plain)
      ∙ ap (λ o. cond (is_explicit r x.1 && (is_glob r o || (is_same r o x.1.by && not (has_same_def r q.1 x.1)))) (Some x) (Some q)) (sym is)
    where
      turn : (s : Bool) → cond s (Some q) (Some x) ≡ cond (not s) (Some x) (Some q)
      turn true = refl
      turn false = refl

      by : (b : Bool) → is_by r i x.1 ≡ b → (s : Bool) → cond b (cond s (Some q) (Some x)) (Some q) ≡ cond (is_explicit r x.1 && (is_same r (Some i) x.1.by && not s)) (Some x) (Some q)
      by true e s =
          turn s
          ∙ ap (λ g. cond (not g && not s) (Some x) (Some q)) (sym plain)
          ∙ ap (λ g. cond (not (r.globs i) && (g && not s)) (Some x) (Some q)) (sym (law.import_refl i))
          ∙ ap (λ o. cond (not (is_glob r o) && (is_same r (Some i) o && not s)) (Some x) (Some q)) (sym (is_same-is i x.1.by e))
      by false e s =
          ap (λ g. cond g (Some x) (Some q)) (sym (and-false (is_explicit r x.1) (not s)))
          ∙ ap (λ g. cond (is_explicit r x.1 && (g && not s)) (Some x) (Some q)) (sym e)

  list_all-filter : (t : ℕ × Push D I → Bool) (ps : List (ℕ × Push D I)) → list_all t (filter t ps) ≡ true
  list_all-filter t [] = refl
  list_all-filter t (p ∷ ps) = by (t p) refl (list_all-filter t ps)
    where
      by : (b : Bool) → t p ≡ b → list_all t (filter t ps) ≡ true → list_all t (cond b (p ∷ filter t ps) (filter t ps)) ≡ true
      by true e rest = ap (λ b. b && list_all t (filter t ps)) e ∙ rest
      by false e rest = rest

  kept_by : (i : I) (x : ℕ × Push D I) → r.globs i ≡ false → filter (λ p. is_by r i p.1) (cond (is_explicit r x.1) (x ∷ []) []) ≡ cond (is_by r i x.1) (x ∷ []) []
  kept_by i x plain = by (is_by r i x.1) refl
    where
      at : (e : Bool) → filter (λ p. is_by r i p.1) (cond e (x ∷ []) []) ≡ cond e (cond (is_by r i x.1) (x ∷ []) []) []
      at true = refl
      at false = refl

      none : (e : Bool) → cond {A = List (ℕ × Push D I)} e [] [] ≡ []
      none true = refl
      none false = refl

      by : (b : Bool) → is_by r i x.1 ≡ b → filter (λ p. is_by r i p.1) (cond (is_explicit r x.1) (x ∷ []) []) ≡ cond b (x ∷ []) []
      by true e =
          at (is_explicit r x.1)
          ∙ ap (λ b. cond (is_explicit r x.1) (cond b (x ∷ []) []) []) e
          ∙ ap (λ o. cond (not (is_glob r o)) (x ∷ []) []) (is_same-is i x.1.by e)
          ∙ ap (λ g. cond (not g) (x ∷ []) []) plain
      by false e =
          at (is_explicit r x.1)
          ∙ ap (λ b. cond (is_explicit r x.1) (cond b (x ∷ []) []) []) e
          ∙ none (is_explicit r x.1)

  some_explicit : (e : ℕ × Push D I) (es : List (ℕ × Push D I)) (x : ℕ × Push D I) → is_explicit r e.1 ≡ true → (o : Option I) → e.1.by ≡ o
      → named_explicit r e o ((e ∷ es) ++ cond (is_explicit r x.1) (x ∷ []) []) ≡ after (named_explicit r e o (e ∷ es)) x
  some_explicit e es x h None is =
      ap (λ g. cond g (Some x) (Some e)) (sym (and-false (is_explicit r x.1) (not (has_same_def r e.1 x.1))))
      ∙ ap (λ o. cond (is_explicit r x.1 && (is_glob r o || (is_same r o x.1.by && not (has_same_def r e.1 x.1)))) (Some x) (Some e)) (sym is)
  some_explicit e es x h (Some i) is =
      ap (last_run r) (filter-append (λ p. is_by r i p.1) (e ∷ es) (cond (is_explicit r x.1) (x ∷ []) []))
      ∙ ap (λ l. last_run r (filter (λ p. is_by r i p.1) (e ∷ es) ++ l)) (kept_by i x plain)
      ∙ parted (is_by r i x.1)
      ∙ ap (λ o. cond (is_by r i x.1) (after_run o x) o) found
      ∙ renewed i x run.0 plain (is_same-is i run.0.1.by found_by) (is_by r i x.1) refl
      ∙ ap (λ o. after o x) (sym found)
    where
      plain : r.globs i ≡ false
      plain = not-true _ (sym (ap (λ o. not (is_glob r o)) is) ∙ h)

      run : (q : ℕ × Push D I) × (last_run r (e ∷ filter (λ p. is_by r i p.1) es) ≡ Some q)
      run = last_run-some e (filter (λ p. is_by r i p.1) es)

      found : last_run r (filter (λ p. is_by r i p.1) (e ∷ es)) ≡ Some run.0
      found = ap (λ b. last_run r (cond b (e ∷ filter (λ p. is_by r i p.1) es) (filter (λ p. is_by r i p.1) es))) (ap (is_same r (Some i)) is ∙ law.import_refl i) ∙ run.1

      found_by : is_by r i run.0.1 ≡ true
      found_by = subst (λ o. IfSome o (λ q. is_by r i q.1 ≡ true)) found (last_run-all (λ p. is_by r i p.1) (filter (λ p. is_by r i p.1) (e ∷ es)) (list_all-filter (λ p. is_by r i p.1) (e ∷ es)))

      parted : (b : Bool) → last_run r (filter (λ p. is_by r i p.1) (e ∷ es) ++ cond b (x ∷ []) []) ≡ cond b (after_run (last_run r (filter (λ p. is_by r i p.1) (e ∷ es))) x) (last_run r (filter (λ p. is_by r i p.1) (e ∷ es)))
      parted true = last_run-push (filter (λ p. is_by r i p.1) (e ∷ es)) x
      parted false = ap (last_run r) (append-nil (filter (λ p. is_by r i p.1) (e ∷ es)))

  first_glob : (kept : List (ℕ × Push D I)) → filter (λ p. is_explicit r p.1) kept ≡ [] → IfSome (slice_get kept 0) (λ q. is_glob r q.1.by ≡ true)
  first_glob [] h = tt
  first_glob (q ∷ qs) h = by (is_glob r q.1.by) h
    where
      by : (g : Bool) → cond (not g) (q ∷ filter (λ p. is_explicit r p.1) qs) (filter (λ p. is_explicit r p.1) qs) ≡ [] → g ≡ true
      by true h = refl
      by false h = cc

  -- one more push of a name
  pub named-push : (kept : List (ℕ × Push D I)) (x : ℕ × Push D I) → named r (kept ++ x ∷ []) ≡ after (named r kept) x
  named-push kept x =
      ap (named_of r (slice_get (kept ++ x ∷ []) 0)) (filter-append (λ p. is_explicit r p.1) kept (x ∷ []))
      ∙ ap (λ o. named_of r o (filter (λ p. is_explicit r p.1) kept ++ filter (λ p. is_explicit r p.1) (x ∷ []))) (first-push kept x)
      ∙ by (filter (λ p. is_explicit r p.1) kept) refl
    where
      by : (es : List (ℕ × Push D I)) → filter (λ p. is_explicit r p.1) kept ≡ es
          → named_of r (or_this (slice_get kept 0) x) (es ++ cond (is_explicit r x.1) (x ∷ []) []) ≡ after (named_of r (slice_get kept 0) es) x
      by [] h = none_explicit (slice_get kept 0) x (first_glob kept h)
      by (e ∷ es) h = some_explicit e es x ((and_parts _ _ (sym (ap (list_all (λ p. is_explicit r p.1)) h) ∙ list_all-filter (λ p. is_explicit r p.1) kept)).0) e.1.by refl

-- What a namespace shows of a list of pushes, and of one push more.
use Rattle.std.proofs.Common.{◌≡◌, ℕ, ◌+◌, ◌≤◌, Bool, true, false, cond, not, ◌&&◌, List, [], ◌∷◌, ◌++◌, length, filter, append-nil, append_assoc, slice_get, Option, None, Some, IfSome, refl, sym, ap, ◌∙◌, true≢false, nat_eq, ne_eqb, eq-eqb, arith}
use Rattle.std.proofs.lemmas.Bool.{and_parts, not-true}
use Rattle.std.proofs.Math.Bool.{and-true}
use Rattle.std.specs.List.{list_all, enumerate_from}
use Rattle.std.specs.Option.{option_map}
use Rattle.std.specs.Str.{bytes_eq}
use Rattle.std.specs.Map.{lookup}
use Rattle.std.specs.Cmp.Lexicographic.{nat_list_eq_equiv}
use Rattle.std.proofs.lemmas.Slice.Eq.{bytes_eq-Decides}
use Rattle.std.proofs.lemmas.List.Elements.{filter-append}
use Rattle.indexmap.specs.IndexMap.{insert_entry}
use Rattle.dm_base.specs.declared.imports.ImportOrDef.{ImportOrDef}
use Rattle.dm_scope.specs.Shadowing.{Reading, is_glob, is_same, writes}
use Rattle.dm_scope.specs.Bindings.{Bound, stored, recorded, with_record, bound, pushed}
use Rattle.dm_scope.specs.Pushes.{last_of, Push, is_explicit, is_by, named_explicit, named_of, named, named_push, item_of, binding, is_glob_push, is_at, is_effective, effective, record_of, ShowsIn}
use Rattle.dm_scope.proofs.PushLemmas.{IsReading, after, named-push, last_run-all, last-push}

enumerate_from-push : {X : Type 0} (n : ℕ) (xs : List X) (x : X) → enumerate_from n (xs ++ x ∷ []) ≡ enumerate_from n xs ++ (n + length xs, x) ∷ []
enumerate_from-push n [] x = ap (λ k. (k, x) ∷ []) (omega arith)
enumerate_from-push n (y ∷ ys) x = ap (λ l. (n, y) ∷ l) (enumerate_from-push (n + 1) ys x ∙ ap (λ k. enumerate_from (n + 1) ys ++ (k, x) ∷ []) (omega arith))

places_before : {X : Type 0} (m n : ℕ) (xs : List X) → n + length xs ≤ m → list_all (λ p. not (nat_eq p.0 m)) (enumerate_from n xs) ≡ true
places_before m n [] h = refl
places_before m n (x ∷ xs) h =
    let apart : nat_eq n m ≡ false = ne_eqb n m (λ e. absurd (omega arith)) in
    ap (λ b. not b && list_all (λ p. not (nat_eq p.0 m)) (enumerate_from (n + 1) xs)) apart ∙ places_before m (n + 1) xs (omega arith)

list_all-kept : {X : Type 0} (t u : X → Bool) (xs : List X) → list_all t xs ≡ true → list_all t (filter u xs) ≡ true
list_all-kept t u [] h = refl
list_all-kept {X} t u (x ∷ xs) h = by (u x) (list_all-kept t u xs ((and_parts (t x) _ h).1))
  where
    by : (b : Bool) → list_all t (filter u xs) ≡ true → list_all t (cond b (x ∷ filter u xs) (filter u xs)) ≡ true
    by true rest = ap (λ b. b && list_all t (filter u xs)) ((and_parts (t x) _ h).0) ∙ rest
    by false rest = rest

first-all : {X : Type 0} (t : X → Bool) (xs : List X) → list_all t xs ≡ true → IfSome (slice_get xs 0) (λ x. t x ≡ true)
first-all t [] h = tt
first-all t (x ∷ xs) h = (and_parts (t x) _ h).0

module _ {D I : Type 0} (r : Reading D I) (law : IsReading r) where
  -- what every kept push passes the named one passes
  named-all : (t : ℕ × Push D I → Bool) (kept : List (ℕ × Push D I)) → list_all t kept ≡ true → IfSome (named r kept) (λ q. t q ≡ true)
  named-all t kept h = by (filter (λ p. is_explicit r p.1) kept) (list_all-kept t (λ p. is_explicit r p.1) kept h)
    where
      explicit : (e : ℕ × Push D I) (es : List (ℕ × Push D I)) (o : Option I) → list_all t (e ∷ es) ≡ true → IfSome (named_explicit r e o (e ∷ es)) (λ q. t q ≡ true)
      explicit e es None h = (and_parts (t e) _ h).0
      explicit e es (Some i) h = last_run-all r law t (filter (λ p. is_by r i p.1) (e ∷ es)) (list_all-kept t (λ p. is_by r i p.1) (e ∷ es) h)

      by : (es : List (ℕ × Push D I)) → list_all t es ≡ true → IfSome (named_of r (slice_get kept 0) es) (λ q. t q ≡ true)
      by [] all = first-all t kept h
      by (e ∷ es) all = explicit e es e.1.by all

  -- one push more, of whatever name
  pub named_push-push : (ps : List (Push D I)) (p : Push D I) (n : List ℕ)
      → named_push r (ps ++ p ∷ []) n ≡ cond (bytes_eq n p.name) (after r law (named_push r ps n) (length ps, p)) (named_push r ps n)
  named_push-push ps p n =
      ap (λ l. named r (filter (λ q. bytes_eq n q.1.name) l)) (enumerate_from-push 0 ps p ∙ ap (λ k. enumerate_from 0 ps ++ (k, p) ∷ []) (omega arith))
      ∙ ap (named r) (filter-append (λ q. bytes_eq n q.1.name) (enumerate_from 0 ps) ((length ps, p) ∷ []))
      ∙ by (bytes_eq n p.name)
    where
      by : (b : Bool) → named r (filter (λ q. bytes_eq n q.1.name) (enumerate_from 0 ps) ++ cond b ((length ps, p) ∷ []) []) ≡ cond b (after r law (named_push r ps n) (length ps, p)) (named_push r ps n)
      by true = named-push r law (filter (λ q. bytes_eq n q.1.name) (enumerate_from 0 ps)) (length ps, p)
      by false = ap (named r) (append-nil (filter (λ q. bytes_eq n q.1.name) (enumerate_from 0 ps)))

  -- a push is effective exactly if it writes
  pub is_effective-writes : (ps : List (Push D I)) (p : Push D I) → is_effective r ps p ≡ writes r (binding r ps p.name) (is_glob_push r (named_push r ps p.name)) p.item p.by
  is_effective-writes ps p =
      ap (is_at r (length ps)) (named_push-push ps p p.name)
      ∙ ap (λ b. is_at r (length ps) (cond b (after r law (named_push r ps p.name) (length ps, p)) (named_push r ps p.name))) (nat_list_eq_equiv.refl p.name)
      ∙ by (writes r (binding r ps p.name) (is_glob_push r (named_push r ps p.name)) p.item p.by)
    where
      other : (o : Option (ℕ × Push D I)) → IfSome o (λ q. not (nat_eq q.0 (length ps)) ≡ true) → is_at r (length ps) o ≡ false
      other None h = refl
      other (Some q) h = not-true (nat_eq q.0 (length ps)) h

      by : (b : Bool) → is_at r (length ps) (cond b (Some (length ps, p)) (named_push r ps p.name)) ≡ b
      by true = eq-eqb (length ps) (length ps) refl
      by false = other (named_push r ps p.name)
          (named-all (λ q. not (nat_eq q.0 (length ps))) (filter (λ q. bytes_eq p.name q.1.name) (enumerate_from 0 ps))
          (list_all-kept (λ q. not (nat_eq q.0 (length ps))) (λ q. bytes_eq p.name q.1.name) (enumerate_from 0 ps) (places_before (length ps) 0 ps (omega arith))))

  effective-push : (before ps : List (Push D I)) (p : Push D I) → effective r before (ps ++ p ∷ []) ≡ effective r before ps ++ cond (is_effective r (before ++ ps) p) (p ∷ []) []
  effective-push before [] p = ap (λ l. cond (is_effective r l p) (p ∷ []) []) (sym (append-nil before))
  effective-push before (q ∷ qs) p =
      ap (λ l. cond (is_effective r before q) (q ∷ l) l)
      (effective-push (before ++ q ∷ []) qs p ∙ ap (λ l. effective r (before ++ q ∷ []) qs ++ cond (is_effective r l p) (p ∷ []) []) (append_assoc before (q ∷ []) qs))
      ∙ by (is_effective r before q)
    where
      by : (b : Bool) → cond b (q ∷ (effective r (before ++ q ∷ []) qs ++ cond (is_effective r (before ++ q ∷ qs) p) (p ∷ []) [])) (effective r (before ++ q ∷ []) qs ++ cond (is_effective r (before ++ q ∷ qs) p) (p ∷ []) [])
          ≡ cond b (q ∷ effective r (before ++ q ∷ []) qs) (effective r (before ++ q ∷ []) qs) ++ cond (is_effective r (before ++ q ∷ qs) p) (p ∷ []) []
      by true = refl
      by false = refl

  -- an effective push renews the record of its import, and no other record changes
  pub record_of-push : (ps : List (Push D I)) (p : Push D I) (i : I)
      → record_of r (ps ++ p ∷ []) i ≡ cond (is_effective r ps p && is_by r i p) (Some (recorded r p.item)) (record_of r ps i)
  record_of-push ps p i =
      ap (λ l. option_map (λ q. recorded r q.item) (last_of l)) (ap (filter (is_by r i)) (effective-push [] ps p) ∙ filter-append (is_by r i) (effective r [] ps) (cond (is_effective r ps p) (p ∷ []) []))
      ∙ by (is_effective r ps p)
    where
      kept : (b : Bool) → option_map (λ q. recorded r q.item) (last_of (filter (is_by r i) (effective r [] ps) ++ cond b (p ∷ []) [])) ≡ cond b (Some (recorded r p.item)) (record_of r ps i)
      kept true = ap (option_map (λ q. recorded r q.item)) (last-push (filter (is_by r i) (effective r [] ps)) p)
      kept false = ap (λ l. option_map (λ q. recorded r q.item) (last_of l)) (append-nil (filter (is_by r i) (effective r [] ps)))

      by : (b : Bool) → option_map (λ q. recorded r q.item) (last_of (filter (is_by r i) (effective r [] ps) ++ filter (is_by r i) (cond b (p ∷ []) []))) ≡ cond (b && is_by r i p) (Some (recorded r p.item)) (record_of r ps i)
      by true = kept (is_by r i p)
      by false = kept false

-- what is found after an entry is put in
pub lookup-insert_entry : {K V : Type 0} (eq : K → K → Bool) → ((x y : K) → eq x y ≡ true → x ≡ y) → (k l : K) (v : V) (es : List (K × V))
    → lookup (eq l) (insert_entry eq es k v) ≡ cond (eq l k) (Some v) (lookup (eq l) es)
lookup-insert_entry eq same k l v [] = refl
lookup-insert_entry {K} {V} eq same k l v (e ∷ es) = by (eq k e.0) refl (lookup-insert_entry eq same k l v es)
  where
    here : (b : Bool) → cond b (Some v) (lookup (eq l) es) ≡ cond b (Some v) (cond b (Some e.1) (lookup (eq l) es))
    here true = refl
    here false = refl

    there : (b : Bool) → eq l e.0 ≡ b → (c : Bool) → eq l k ≡ c → eq k e.0 ≡ false → cond b (Some e.1) (cond c (Some v) (lookup (eq l) es)) ≡ cond c (Some v) (cond b (Some e.1) (lookup (eq l) es))
    there true p true q apart = absurd (true≢false (sym (ap (λ x. eq x e.0) (sym (same l k q)) ∙ p) ∙ apart))
    there true p false q apart = refl
    there false p c q apart = refl

    by : (b : Bool) → eq k e.0 ≡ b → lookup (eq l) (insert_entry eq es k v) ≡ cond (eq l k) (Some v) (lookup (eq l) es)
        → lookup (eq l) (cond b ((e.0, v) ∷ es) (e ∷ insert_entry eq es k v)) ≡ cond (eq l k) (Some v) (cond (eq l e.0) (Some e.1) (lookup (eq l) es))
    by true p rest = ap (λ x. cond (eq l x) (Some v) (lookup (eq l) es)) (sym (same k e.0 p)) ∙ here (eq l k) ∙ ap (λ x. cond (eq l k) (Some v) (cond (eq l x) (Some e.1) (lookup (eq l) es))) (same k e.0 p)
    by false p rest = ap (λ o. cond (eq l e.0) (Some e.1) o) rest ∙ there (eq l e.0) refl (eq l k) refl p

module _ {D I : Type 0} (r : Reading D I) (law : IsReading r) where
  -- nothing was pushed
  pub ShowsIn-none : (flag : List ℕ → Bool) → ((n : List ℕ) → flag n ≡ false) → ShowsIn r (record { items = []; records = [] }) flag []
  ShowsIn-none flag none = record { bindings = λ n. refl; records = λ i. refl; flags = none }

  -- whether the push writes, by what the namespace shows
  pub ShowsIn-writes : (s : Bound D I) (flag : List ℕ → Bool) (ps : List (Push D I)) (p : Push D I) → ShowsIn r s flag ps
      → writes r (lookup (bytes_eq p.name) s.items) (flag p.name) p.item p.by ≡ is_effective r ps p
  ShowsIn-writes s flag ps p shows =
      (λ j. writes r (shows.bindings p.name j) (shows.flags p.name j) p.item p.by) ∙ sym (is_effective-writes r law ps p)

  -- the named push of each name, after one push more
  named_push-more : (ps : List (Push D I)) (p : Push D I) (n : List ℕ)
      → named_push r (ps ++ p ∷ []) n ≡ cond (is_effective r ps p && bytes_eq n p.name) (Some (length ps, p)) (named_push r ps n)
  named_push-more ps p n = named_push-push r law ps p n ∙ by (bytes_eq n p.name) refl
    where
      same : (m : List ℕ) → m ≡ p.name → writes r (binding r ps m) (is_glob_push r (named_push r ps m)) p.item p.by ≡ (is_effective r ps p && true)
      same m e = ap (λ m. writes r (binding r ps m) (is_glob_push r (named_push r ps m)) p.item p.by) e ∙ sym (is_effective-writes r law ps p) ∙ sym (and-true (is_effective r ps p))

      none : (b : Bool) → named_push r ps n ≡ cond (b && false) (Some (length ps, p)) (named_push r ps n)
      none true = refl
      none false = refl

      by : (b : Bool) → bytes_eq n p.name ≡ b → cond b (after r law (named_push r ps n) (length ps, p)) (named_push r ps n) ≡ cond (is_effective r ps p && b) (Some (length ps, p)) (named_push r ps n)
      by true e = ap (λ w. cond w (Some (length ps, p)) (named_push r ps n)) (same n ((bytes_eq-Decides n p.name).0 e))
      by false e = none (is_effective r ps p)

  pub ShowsIn-push : (s : Bound D I) (flag flag_after : List ℕ → Bool) (ps : List (Push D I)) (p : Push D I) → ShowsIn r s flag ps
      → ((n : List ℕ) → flag_after n ≡ cond (writes r (lookup (bytes_eq p.name) s.items) (flag p.name) p.item p.by && bytes_eq n p.name) (is_glob r p.by) (flag n))
      → ShowsIn r (pushed r s (flag p.name) p.name p.item p.by) flag_after (ps ++ p ∷ [])
  ShowsIn-push s flag flag_after ps p shows change = record {
    bindings = λ n. item (writes r (lookup (bytes_eq p.name) s.items) (flag p.name) p.item p.by) n
        ∙ ap (λ w. item_of r (cond (w && bytes_eq n p.name) (Some (length ps, p)) (named_push r ps n))) (ShowsIn-writes s flag ps p shows)
        ∙ ap (item_of r) (sym (named_push-more ps p n));
    records = λ i. recorded_at (writes r (lookup (bytes_eq p.name) s.items) (flag p.name) p.item p.by) i
        ∙ ap (λ w. cond (w && is_by r i p) (Some (recorded r p.item)) (record_of r ps i)) (ShowsIn-writes s flag ps p shows)
        ∙ sym (record_of-push r law ps p i);
    flags = λ n. change n
        ∙ glob (writes r (lookup (bytes_eq p.name) s.items) (flag p.name) p.item p.by && bytes_eq n p.name) n
        ∙ ap (λ w. is_glob_push r (cond (w && bytes_eq n p.name) (Some (length ps, p)) (named_push r ps n))) (ShowsIn-writes s flag ps p shows)
        ∙ ap (is_glob_push r) (sym (named_push-more ps p n));
  }
    where
      at : (b : Bool) (n : List ℕ) → cond b (Some (stored r p.item p.by)) (lookup (bytes_eq n) s.items) ≡ item_of r (cond b (Some (length ps, p)) (named_push r ps n))
      at true n = refl
      at false n = shows.bindings n

      item : (w : Bool) (n : List ℕ) → lookup (bytes_eq n) (cond w (bound r s p.name p.item p.by) s).items ≡ item_of r (cond (w && bytes_eq n p.name) (Some (length ps, p)) (named_push r ps n))
      item true n = lookup-insert_entry bytes_eq (λ x y. (bytes_eq-Decides x y).0) p.name n (stored r p.item p.by) s.items ∙ at (bytes_eq n p.name) n
      item false n = shows.bindings n

      glob : (b : Bool) (n : List ℕ) → cond b (is_glob r p.by) (flag n) ≡ is_glob_push r (cond b (Some (length ps, p)) (named_push r ps n))
      glob true n = refl
      glob false n = shows.flags n

      with_import : (o : Option I) (i : I) (v : ImportOrDef) → lookup (r.same_import i) (with_record r s.records o v) ≡ cond (is_same r (Some i) o) (Some v) (lookup (r.same_import i) s.records)
      with_import None i v = refl
      with_import (Some j) i v = lookup-insert_entry r.same_import law.import_same j i v s.records

      recorded_at : (w : Bool) (i : I) → lookup (r.same_import i) (cond w (bound r s p.name p.item p.by) s).records ≡ cond (w && is_by r i p) (Some (recorded r p.item)) (record_of r ps i)
      recorded_at true i = with_import p.by i (recorded r p.item) ∙ ap (cond (is_by r i p) (Some (recorded r p.item))) (shows.records i)
      recorded_at false i = shows.records i

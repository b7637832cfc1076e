-- The whole path of a use tree, from the tree outwards.
use Rattle.std.proofs.Common.{◌≡◌, ◌+◌, ◌<◌, ◌≤◌, ℕ, zero, suc, Bool, true, false, List, [], ◌∷◌, ◌++◌, length, drop, get_or, refl, ap, sym, ◌∙◌, append_assoc, add-one, arith, length-append, inl, inr, drop-cons}
use Rattle.std.specs.Prelude.{◌⊎◌, Option, Some, None, reverse, slice_get, nat_lt, if◌then◌else◌}
use Rattle.std.proofs.lemmas.Bool.{lt-ltb, le-ltb, cases_lt}
use Rattle.std.proofs.lemmas.List.{append-nil, reverse-append}
use Rattle.std.proofs.lemmas.Option.{slice_get_past, slice_get-get_or}
use Rattle.item_tree.specs.Imports.{counts, segments_from, own_segments, segments_or_none, outer_segments, paths_from, import_path, before, outer_of, own_of}
use Rattle.item_tree.specs.declared.lexer.lexeme.Lexeme.{Lexeme}
use Rattle.item_tree.specs.declared.items.use_tree.UseTree.{UseTree}

-- one more lexeme before those whose places are known
pub one_back : (first at : ℕ) (own : List Lexeme) (d : Lexeme) (placed old : List ℕ) → at < length own → placed ≡ old ++ reverse (segments_from first (at + 1) (drop (at + 1) own))
    → (if counts at (get_or own at d).kind then placed ++ (first + at) ∷ [] else placed) ≡ old ++ reverse (segments_from first at (drop at own))
one_back first at own d placed old within is =
    let l = get_or own at d in
    let more = segments_from first (at + 1) (drop (at + 1) own) in
    let next : drop at own ≡ l ∷ drop (at + 1) own = rw add-one (drop-cons own at d within) in
    by (counts at l.kind) ∙ ap (λ ls. old ++ reverse (segments_from first at ls)) (sym next)
  where
    by : (c : Bool) → (if c then placed ++ (first + at) ∷ [] else placed) ≡ old ++ reverse (if c then (first + at) ∷ segments_from first (at + 1) (drop (at + 1) own) else segments_from first (at + 1) (drop (at + 1) own))
    by true =
        ap (λ xs. xs ++ (first + at) ∷ []) is
        ∙ append_assoc old (reverse (segments_from first (at + 1) (drop (at + 1) own))) ((first + at) ∷ [])
        ∙ ap (λ xs. old ++ xs) (sym (reverse-append ((first + at) ∷ []) (segments_from first (at + 1) (drop (at + 1) own))))
    by false = is

get_kept : (xs ys : List (List ℕ)) (n : ℕ) (x : List ℕ) → slice_get xs n ≡ Some x → slice_get (xs ++ ys) n ≡ Some x
get_kept [] ys n x e = absurd cc
get_kept (y ∷ xs) ys zero x e = e
get_kept (y ∷ xs) ys (suc n) x e = get_kept xs ys n x e

get_seam : (xs : List (List ℕ)) (x : List ℕ) (ys : List (List ℕ)) → slice_get (xs ++ x ∷ ys) (length xs) ≡ Some x
get_seam [] x ys = refl
get_seam (y ∷ xs) x ys = get_seam xs x ys

module _ (ls : List Lexeme) where
  path_kept : (paths : List (List ℕ)) (ts : List UseTree) (n : ℕ) (x : List ℕ) → slice_get paths n ≡ Some x → slice_get (paths_from ls paths ts) n ≡ Some x
  path_kept paths [] n x e = e
  path_kept paths (t ∷ ts) n x e =
      path_kept (paths ++ (outer_segments paths t.parent ++ own_segments ls t) ∷ []) ts n x (get_kept paths ((outer_segments paths t.parent ++ own_segments ls t) ∷ []) n x e)

  length-paths : (paths : List (List ℕ)) (ts : List UseTree) → length (paths_from ls paths ts) ≡ length paths + length ts
  length-paths paths [] = omega arith
  length-paths paths (t ∷ ts) =
      let x = outer_segments paths t.parent ++ own_segments ls t in
      let more = length-paths (paths ++ x ∷ []) ts in
      let one = length-append paths (x ∷ []) in
      omega arith

  -- what is known where a tree is read
  record Read (all : List (List ℕ)) (n : ℕ) (t : UseTree) : Type 0 where
    pub front : List (List ℕ)
    pub count : length front ≡ n
    pub there : slice_get all n ≡ Some (outer_segments front t.parent ++ own_segments ls t)
    pub kept : (m : ℕ) (x : List ℕ) → slice_get front m ≡ Some x → slice_get all m ≡ Some x

  read_at : (paths : List (List ℕ)) (ts : List UseTree) (k : ℕ) (t : UseTree) → slice_get ts k ≡ Some t → Read (paths_from ls paths ts) (length paths + k) t
  read_at paths [] k t e = absurd cc
  read_at paths (u ∷ ts) zero t e =
      let x = outer_segments paths u.parent ++ own_segments ls u in
      let same : u ≡ t = cc in
      let zero_more : length paths + zero ≡ length paths = omega arith in
      record {
        front = paths;
        count = sym zero_more;
        there = ap (slice_get (paths_from ls (paths ++ x ∷ []) ts)) zero_more ∙ path_kept (paths ++ x ∷ []) ts (length paths) x (get_seam paths x [])
            ∙ ap (λ (v : UseTree). Some (outer_segments paths v.parent ++ own_segments ls v)) same;
        kept = λ m y h. path_kept (paths ++ x ∷ []) ts m y (get_kept paths (x ∷ []) m y h);
      }
  read_at paths (u ∷ ts) (suc k) t e =
      let x = outer_segments paths u.parent ++ own_segments ls u in
      let r = read_at (paths ++ x ∷ []) ts k t e in
      let n : length (paths ++ x ∷ []) + k ≡ length paths + suc k = omega (arith, length-append paths (x ∷ [])) in
      record { front = r.front; count = r.count ∙ n; there = ap (slice_get (paths_from ls (paths ++ x ∷ []) ts)) (sym n) ∙ r.there; kept = r.kept }

  module _ (trees : List UseTree) where
    -- the path of the list around, if there is one
    around : Option ℕ → List ℕ
    around None = []
    around (Some n) = import_path ls trees n

    pub path_of : Option ℕ → List ℕ
    path_of o = around o

    same_front : (all front : List (List ℕ)) (n : ℕ) (p : Option ℕ) → length front ≡ n → ((m : ℕ) (x : List ℕ) → slice_get front m ≡ Some x → slice_get all m ≡ Some x)
        → all ≡ paths_from ls [] trees → outer_segments front p ≡ around (before n p)
    unfolding around
    same_front all front n None count kept is = refl
    same_front all front n (Some m) count kept is = by (cases_lt m n)
      where
        by : ((m < n) ⊎ (n ≤ m)) → segments_or_none (slice_get front m) ≡ around (if nat_lt m n then Some m else None)
        by (inl low) =
            let here = slice_get-get_or front m [] (omega arith) in
            rw (lt-ltb m n low)
            (ap segments_or_none here ∙ sym (ap segments_or_none (ap (λ (a : List (List ℕ)). slice_get a m) (sym is) ∙ kept m (get_or front m []) here)))
        by (inr high) = rw (le-ltb m n high) (ap segments_or_none (slice_get_past front m (omega arith)))

    tree_path : (n : ℕ) (o : Option UseTree) → slice_get trees n ≡ o → import_path ls trees n ≡ around (outer_of n o) ++ own_of ls o
    unfolding around
    tree_path n None e = by (cases_lt n (length trees))
      where
        by : ((n < length trees) ⊎ (length trees ≤ n)) → segments_or_none (slice_get (paths_from ls [] trees) n) ≡ []
        by (inl low) = absurd (none_there trees n low e)
          where
            none_there : (ts : List UseTree) (k : ℕ) → k < length ts → slice_get ts k ≡ None → ⊥
            none_there [] k low h = omega arith
            none_there (t ∷ ts) zero low h = cc
            none_there (t ∷ ts) (suc k) low h = none_there ts k (omega arith) h
        by (inr high) = let long = length-paths [] trees in ap segments_or_none (slice_get_past (paths_from ls [] trees) n (omega arith))
    tree_path n (Some t) e =
        let r : Read (paths_from ls [] trees) (0 + n) t = read_at [] trees n t e in
        let n' : 0 + n ≡ n = omega arith in
        ap segments_or_none (ap (slice_get (paths_from ls [] trees)) (sym n') ∙ r.there)
        ∙ ap (λ xs. xs ++ own_segments ls t) (same_front (paths_from ls [] trees) r.front n t.parent (r.count ∙ n') r.kept refl)

    -- the loop: what is found stands backwards
    pub path_begun : (n : ℕ) → path_of (Some n) ++ reverse [] ≡ import_path ls trees n
    unfolding path_of around
    path_begun n = append-nil (import_path ls trees n)

    pub path_further : (n : ℕ) (placed more wanted : List ℕ) (next : Option ℕ) → more ≡ placed ++ reverse (own_of ls (slice_get trees n)) → next ≡ outer_of n (slice_get trees n)
        → path_of (Some n) ++ reverse placed ≡ wanted → path_of next ++ reverse more ≡ wanted
    unfolding path_of around
    path_further n placed more wanted next added is read =
        ap (λ o. around o ++ reverse more) is
        ∙ ap (λ xs. around (outer_of n (slice_get trees n)) ++ reverse xs) added
        ∙ ap (λ xs. around (outer_of n (slice_get trees n)) ++ xs) (reverse-append placed (reverse (own_of ls (slice_get trees n))) ∙ ap (λ xs. xs ++ reverse placed) (turned (own_of ls (slice_get trees n))))
        ∙ sym (append_assoc (around (outer_of n (slice_get trees n))) (own_of ls (slice_get trees n)) (reverse placed))
        ∙ ap (λ xs. xs ++ reverse placed) (sym (tree_path n (slice_get trees n) refl)) ∙ read
      where
        turned : (xs : List ℕ) → reverse (reverse xs) ≡ xs
        turned [] = refl
        turned (x ∷ xs) = ap reverse (reverse-append (x ∷ []) xs) ∙ reverse-append (reverse xs) (x ∷ []) ∙ ap (λ ys. x ∷ ys) (turned xs)

    pub path_done : (placed wanted : List ℕ) (next : Option ℕ) → next ≡ None → path_of next ++ reverse placed ≡ wanted → reverse placed ≡ wanted
    unfolding path_of around
    path_done placed wanted next none read = ap (λ o. around o ++ reverse placed) (sym none) ∙ read

-- The paths of use trees that are written by the grammar are those of the tree.
use Rattle.std.proofs.Common.{◌≡◌, ◌+◌, ◌-◌, ℕ, zero, suc, true, false, List, [], ◌∷◌, ◌++◌, length, take, drop, refl, ap, sym, ◌∙◌, append_assoc, arith, length-append, length-drop, length-take}
use Rattle.std.specs.Prelude.{Option, Some, None, slice_get}
use Rattle.std.proofs.lemmas.List.{take-append-drop}
use Rattle.std.proofs.Math.Seq.{drop-append_seam, take-append_seam}
use Rattle.item_tree.specs.AttributeKinds.{lexemes_in}
use Rattle.item_tree.specs.UseGrammar.{prefix_of, Written, Name, Renamed, Glob, List_, WrittenList, End, Last, More, lexemes_of, list_lexemes_of, leaves, list_leaves, Writes, Leaf}
use Rattle.item_tree.specs.UseLeaves.{outer_path, path_or_none, whole_path, alias_of, leaf_of, leaves_from, leaves_of}
use Rattle.item_tree.specs.UseTrees.{with_tail}
use Rattle.item_tree.specs.declared.items.Range.{Range}
use Rattle.item_tree.specs.declared.lexer.lexeme.Lexeme.{Lexeme}
use Rattle.item_tree.specs.declared.items.use_tree.UseTree.{UseTree}
use Rattle.item_tree.specs.declared.items.use_tree.UseTreeKind.TheVariants as tree
use Rattle.item_tree.proofs.UseWritten.{rows, list_rows}

get_kept : {X : Type 0} (xs ys : List X) (n : ℕ) (x : X) → slice_get xs n ≡ Some x → slice_get (xs ++ ys) n ≡ Some x
get_kept [] ys n x e = absurd cc
get_kept (y ∷ xs) ys zero x e = e
get_kept (y ∷ xs) ys (suc n) x e = get_kept xs ys n x e

get_seam : {X : Type 0} (xs : List X) (x : X) (ys : List X) → slice_get (xs ++ x ∷ ys) (length xs) ≡ Some x
get_seam [] x ys = refl
get_seam (y ∷ xs) x ys = get_seam xs x ys

abbrev named : List Lexeme → Option Lexeme → List Leaf
named path alias = record { path = path; kind = tree.Single; alias = alias } ∷ []

same_leaf : (p q : List Lexeme) (a b : Option Lexeme) → p ≡ q → a ≡ b → named p a ≡ named q b
same_leaf p q a b e f = ap (λ path. named path a) e ∙ ap (named q) f

-- the lexemes of a range between others
in_range : (front head back : List Lexeme) (i n : ℕ) → length front ≡ i → length head ≡ n → lexemes_in (front ++ (head ++ back)) (record { first = i; behind = i + n }) ≡ head
in_range front head back i n at size =
    let long : i + n - i ≡ length head = omega arith in
    ap (λ k. take k (drop i (front ++ (head ++ back)))) long
    ∙ ap (λ k. take (length head) (drop k (front ++ (head ++ back)))) (sym at)
    ∙ ap (take (length head)) (drop-append_seam front (head ++ back)) ∙ take-append_seam head back

module _ (ls : List Lexeme) where
  -- the paths of some trees behind those before them
  paths_behind : List (List Lexeme) → List UseTree → List (List Lexeme)
  paths_behind paths [] = paths
  paths_behind paths (t ∷ ts) = paths_behind (paths ++ whole_path ls paths t ∷ []) ts

  leaves-append : (paths : List (List Lexeme)) (xs ys : List UseTree) → leaves_from ls paths (xs ++ ys) ≡ leaves_from ls paths xs ++ leaves_from ls (paths_behind paths xs) ys
  unfolding paths_behind
  leaves-append paths [] ys = refl
  leaves-append paths (t ∷ xs) ys =
      ap (λ more. leaf_of (whole_path ls paths t) t.kind (alias_of ls t.alias) ++ more) (leaves-append (paths ++ whole_path ls paths t ∷ []) xs ys)
      ∙ sym (append_assoc (leaf_of (whole_path ls paths t) t.kind (alias_of ls t.alias)) (leaves_from ls (paths ++ whole_path ls paths t ∷ []) xs) (leaves_from ls (paths_behind (paths ++ whole_path ls paths t ∷ []) xs) ys))

  length-paths : (paths : List (List Lexeme)) (ts : List UseTree) → length (paths_behind paths ts) ≡ length paths + length ts
  unfolding paths_behind
  length-paths paths [] = omega arith
  length-paths paths (t ∷ ts) =
      let more = length-paths (paths ++ whole_path ls paths t ∷ []) ts in
      let one = length-append paths (whole_path ls paths t ∷ []) in
      omega arith

  path_kept : (paths : List (List Lexeme)) (ts : List UseTree) (n : ℕ) (p : List Lexeme) → slice_get paths n ≡ Some p → slice_get (paths_behind paths ts) n ≡ Some p
  unfolding paths_behind
  path_kept paths [] n p e = e
  path_kept paths (t ∷ ts) n p e = path_kept (paths ++ whole_path ls paths t ∷ []) ts n p (get_kept paths (whole_path ls paths t ∷ []) n p e)

  -- the path of the list around
  Outer : List (List Lexeme) → Option ℕ → List Lexeme → Type 0
  Outer paths None pre = pre ≡ []
  Outer paths (Some n) pre = slice_get paths n ≡ Some pre

  outer_is : (paths : List (List Lexeme)) (parent : Option ℕ) (pre : List Lexeme) → Outer paths parent pre → outer_path paths parent ≡ pre
  unfolding Outer
  outer_is paths None pre h = sym h
  outer_is paths (Some n) pre h = ap path_or_none h

  outer_kept : (paths : List (List Lexeme)) (ts : List UseTree) (parent : Option ℕ) (pre : List Lexeme) → Outer paths parent pre → Outer (paths_behind paths ts) parent pre
  unfolding Outer
  outer_kept paths ts None pre h = h
  outer_kept paths ts (Some n) pre h = path_kept paths ts n pre h

  -- the whole path of a tree whose own path is between other lexemes
  whole_is : (front head back : List Lexeme) (i n : ℕ) (t : UseTree) (paths : List (List Lexeme)) (pre : List Lexeme) → ls ≡ front ++ (head ++ back) → length front ≡ i → length head ≡ n
      → t.path ≡ record { first = i; behind = i + n } → Outer paths t.parent pre → whole_path ls paths t ≡ pre ++ head
  whole_is front head back i n t paths pre is at size path outer =
      ap (λ xs. xs ++ lexemes_in ls t.path) (outer_is paths t.parent pre outer)
      ∙ ap (λ r. pre ++ lexemes_in ls r) path ∙ ap (λ xs. pre ++ lexemes_in xs (record { first = i; behind = i + n })) is ∙ ap (λ xs. pre ++ xs) (in_range front head back i n at size)

  -- the path of a list that is read
  own_path : (paths : List (List Lexeme)) (row : UseTree) (n : ℕ) (path : List Lexeme) → length paths ≡ n → whole_path ls paths row ≡ path → Outer (paths ++ whole_path ls paths row ∷ []) (Some n) path
  unfolding Outer
  own_path paths row n path count whole =
      ap (λ k. slice_get (paths ++ whole_path ls paths row ∷ []) k) (sym count) ∙ get_seam paths (whole_path ls paths row) [] ∙ ap (λ (p : List Lexeme). Some p) whole

  mutual
    leaves_are : (t : Written) (front back : List Lexeme) (i n : ℕ) (parent : Option ℕ) (paths : List (List Lexeme)) (pre : List Lexeme)
        → ls ≡ front ++ (lexemes_of t ++ back) → length front ≡ i → length paths ≡ n → Outer paths parent pre → leaves_from ls paths (rows t i n parent) ≡ leaves pre t
    leaves_are (Name p s) front back i n parent paths pre is at count outer =
        let head = prefix_of p ++ s ∷ [] in
        let row = with_tail i parent (length (prefix_of p) + 1) (record { kind = tree.Single; alias = false; len = 0 }) in
        ap (λ path. record { path = path; kind = tree.Single; alias = None } ∷ [])
        (whole_is front head back i (length (prefix_of p) + 1) row paths pre is at (length-append (prefix_of p) (s ∷ [])) refl outer)
    leaves_are (Renamed p s a m) front back i n parent paths pre is at count outer =
        let own = prefix_of p in
        let row = with_tail i parent (length own + 1) (record { kind = tree.Single; alias = true; len = 2 }) in
        let parted : ls ≡ front ++ ((own ++ s ∷ []) ++ a ∷ m ∷ back)
        = is ∙ ap (λ xs. front ++ xs) (append_assoc own (s ∷ a ∷ m ∷ []) back ∙ sym (append_assoc own (s ∷ []) (a ∷ m ∷ back))) in
        let before : ls ≡ (front ++ (own ++ s ∷ a ∷ [])) ++ m ∷ back
        = is ∙ ap (λ xs. front ++ xs) (append_assoc own (s ∷ a ∷ m ∷ []) back ∙ sym (append_assoc own (s ∷ a ∷ []) (m ∷ back))) ∙ sym (append_assoc front (own ++ s ∷ a ∷ []) (m ∷ back)) in
        let place : i + (length own + 1) + 1 ≡ length (front ++ (own ++ s ∷ a ∷ []))
        = omega (arith, length-append front (own ++ s ∷ a ∷ []), length-append own (s ∷ a ∷ [])) in
        let alias : slice_get ls (i + (length own + 1) + 1) ≡ Some m
        = ap (λ k. slice_get ls k) place ∙ ap (λ xs. slice_get xs (length (front ++ (own ++ s ∷ a ∷ [])))) before ∙ get_seam (front ++ (own ++ s ∷ a ∷ [])) m back in
        let whole : whole_path ls paths row ≡ pre ++ (own ++ s ∷ [])
        = whole_is front (own ++ s ∷ []) (a ∷ m ∷ back) i (length own + 1) row paths pre parted at (length-append own (s ∷ [])) refl outer in
        same_leaf (whole_path ls paths row) (pre ++ (own ++ s ∷ [])) (slice_get ls (i + (length own + 1) + 1)) (Some m) whole alias
    leaves_are (Glob p star) front back i n parent paths pre is at count outer =
        let own = prefix_of p in
        let row = with_tail i parent (length own) (record { kind = tree.Glob; alias = false; len = 1 }) in
        ap (λ path. record { path = path; kind = tree.Glob; alias = None } ∷ [])
        (whole_is front own (star ∷ back) i (length own) row paths pre (is ∙ ap (λ xs. front ++ xs) (append_assoc own (star ∷ []) back)) at refl refl outer)
    leaves_are (List_ p o ts) front back i n parent paths pre is at count outer =
        let own = prefix_of p in
        let row = with_tail i parent (length own) (record { kind = tree.Prefixed; alias = false; len = 1 }) in
        let more = list_lexemes_of ts ++ back in
        let parted : ls ≡ front ++ (own ++ o ∷ more) = is ∙ ap (λ xs. front ++ xs) (append_assoc own (o ∷ list_lexemes_of ts) back) in
        let whole : whole_path ls paths row ≡ pre ++ own = whole_is front own (o ∷ more) i (length own) row paths pre parted at refl refl outer in
        let inside : ls ≡ (front ++ (own ++ o ∷ [])) ++ more
        = parted ∙ ap (λ xs. front ++ xs) (sym (append_assoc own (o ∷ []) more)) ∙ sym (append_assoc front (own ++ o ∷ []) more) in
        let there : length (front ++ (own ++ o ∷ [])) ≡ i + (length own + 1) = omega (arith, length-append front (own ++ o ∷ []), length-append own (o ∷ [])) in
        let counted : length (paths ++ whole_path ls paths row ∷ []) ≡ n + 1 = omega (arith, length-append paths (whole_path ls paths row ∷ [])) in
        listed_leaves ts (front ++ (own ++ o ∷ [])) back (i + (length own + 1)) (n + 1) (Some n) (paths ++ whole_path ls paths row ∷ []) (pre ++ own) inside there counted
        (own_path paths row n (pre ++ own) count whole)

    listed_leaves : (ts : WrittenList) (front back : List Lexeme) (i n : ℕ) (parent : Option ℕ) (paths : List (List Lexeme)) (pre : List Lexeme)
        → ls ≡ front ++ (list_lexemes_of ts ++ back) → length front ≡ i → length paths ≡ n → Outer paths parent pre → leaves_from ls paths (list_rows ts i n parent) ≡ list_leaves pre ts
    listed_leaves (End c) front back i n parent paths pre is at count outer = refl
    listed_leaves (Last t c) front back i n parent paths pre is at count outer =
        leaves_are t front (c ∷ back) i n parent paths pre (is ∙ ap (λ xs. front ++ xs) (append_assoc (lexemes_of t) (c ∷ []) back)) at count outer
    listed_leaves (More t m ts) front back i n parent paths pre is at count outer =
        let own = rows t i n parent in
        let rest = list_rows ts (i + length (lexemes_of t) + 1) (n + length own) parent in
        let more = list_lexemes_of ts ++ back in
        let parted : ls ≡ front ++ (lexemes_of t ++ m ∷ more) = is ∙ ap (λ xs. front ++ xs) (append_assoc (lexemes_of t) (m ∷ list_lexemes_of ts) back) in
        let inside : ls ≡ (front ++ (lexemes_of t ++ m ∷ [])) ++ more
        = parted ∙ ap (λ xs. front ++ xs) (sym (append_assoc (lexemes_of t) (m ∷ []) more)) ∙ sym (append_assoc front (lexemes_of t ++ m ∷ []) more) in
        let there : length (front ++ (lexemes_of t ++ m ∷ [])) ≡ i + length (lexemes_of t) + 1 = omega (arith, length-append front (lexemes_of t ++ m ∷ []), length-append (lexemes_of t) (m ∷ [])) in
        let counted : length (paths_behind paths own) ≡ n + length own = omega (arith, length-paths paths own) in
        leaves-append paths own rest
        ∙ ap (λ xs. xs ++ leaves_from ls (paths_behind paths own) rest) (leaves_are t front (m ∷ more) i n parent paths pre parted at count outer)
        ∙ ap (λ xs. leaves pre t ++ xs)
        (listed_leaves ts (front ++ (lexemes_of t ++ m ∷ [])) back (i + length (lexemes_of t) + 1) (n + length own) parent (paths_behind paths own) pre inside there counted (outer_kept paths own parent pre outer))

  none_around : Outer [] None []
  unfolding Outer
  none_around = refl

pub leaves_of_written : (lexemes : List Lexeme) (range : Range) (t : Written) → Writes lexemes range t → leaves_of lexemes (rows t range.first 0 None) ≡ leaves [] t
leaves_of_written lexemes range t w =
    let front = take range.first lexemes in
    let back = w.semicolon ∷ w.rest in
    let is : lexemes ≡ front ++ (lexemes_of t ++ back) = sym (take-append-drop range.first lexemes) ∙ ap (λ xs. front ++ xs) w.there in
    let size : length (drop range.first lexemes) ≡ length (lexemes_of t) + (1 + length w.rest) = ap length w.there ∙ length-append (lexemes_of t) back ∙ one_more (length (lexemes_of t)) (length w.rest) in
    let whole = length-drop range.first lexemes in
    let at : length front ≡ range.first = omega (arith, length-take range.first lexemes) in
    leaves_are lexemes t front back range.first 0 None [] [] is at refl (none_around lexemes)
  where
    one_more : (n m : ℕ) → n + suc m ≡ n + (1 + m)
    one_more n m = omega arith

-- Use trees that are written by the grammar are read as they are written.
use Rattle.std.proofs.Common.{◌≡◌, ◌+◌, ◌-◌, ◌<◌, ◌≤◌, ℕ, zero, suc, Bool, true, false, List, [], ◌∷◌, ◌++◌, length, drop, refl, ap, sym, ◌∙◌, subst, append_assoc, arith, length-append}
use Rattle.std.specs.Prelude.{◌||◌, Option, Some, None, slice_get, if◌then◌else◌}
use Rattle.std.proofs.lemmas.List.{append-nil}
use Rattle.item_tree.specs.Heads.{is_mark}
use Rattle.item_tree.specs.UseGrammar.{prefix_of, Written, Name, Renamed, Glob, List_, WrittenList, End, Last, More, lexemes_of, list_lexemes_of, IsUseTree, IsList, IsMark, IsClose, Writes}
use Rattle.item_tree.specs.UseTrees.{with_tail, outer, parent_of, closes_list, step_of, first_use_tree, step_to, use_trees_from, use_trees_of}
use Rattle.item_tree.specs.Visibilities.{lexeme_at}
use Rattle.item_tree.specs.declared.items.Range.{Range}
use Rattle.item_tree.specs.declared.lexer.lexeme.Lexeme.{Lexeme}
use Rattle.item_tree.specs.declared.items.use_tree.Step.{Step}
use Rattle.item_tree.specs.declared.items.use_tree.UseTree.{UseTree}
use Rattle.item_tree.specs.declared.items.use_tree.UseTreeKind.TheVariants as tree
use Rattle.item_tree.proofs.NextUseTree.{one_step, nothing_read}
use Rattle.item_tree.proofs.UseHeads.{Begins, Follows, comma, close, semicolon, name_row, renamed_row, glob_row, list_row, name_begins, glob_begins, list_begins, tree_goes}

-- the rows of a tree that begins at a place, and has a number and a list that it stands in
abbrev mutual
  pub rows : Written → ℕ → ℕ → Option ℕ → List UseTree
  rows (Name p s) i n parent = with_tail i parent (length (prefix_of p) + 1) (record { kind = tree.Single; alias = false; len = 0 }) ∷ []
  rows (Renamed p s a m) i n parent = with_tail i parent (length (prefix_of p) + 1) (record { kind = tree.Single; alias = true; len = 2 }) ∷ []
  rows (Glob p star) i n parent = with_tail i parent (length (prefix_of p)) (record { kind = tree.Glob; alias = false; len = 1 }) ∷ []
  rows (List_ p o ts) i n parent =
      with_tail i parent (length (prefix_of p)) (record { kind = tree.Prefixed; alias = false; len = 1 }) ∷ list_rows ts (i + (length (prefix_of p) + 1)) (n + 1) (Some n)

  pub list_rows : WrittenList → ℕ → ℕ → Option ℕ → List UseTree
  list_rows (End c) i n parent = []
  list_rows (Last t c) i n parent = rows t i n parent
  list_rows (More t m ts) i n parent = rows t i n parent ++ list_rows ts (i + length (lexemes_of t) + 1) (n + length (rows t i n parent)) parent

-- a list stands in another one, or in none
record ListIn (trees : List UseTree) (n : ℕ) (parent : Option ℕ) : Type 0 where
  pub list : UseTree
  pub there : slice_get trees n ≡ Some list
  pub in_it : list.parent ≡ parent

get_kept : (xs ys : List UseTree) (n : ℕ) (t : UseTree) → slice_get xs n ≡ Some t → slice_get (xs ++ ys) n ≡ Some t
get_kept [] ys n t e = absurd cc
get_kept (x ∷ xs) ys zero t e = e
get_kept (x ∷ xs) ys (suc n) t e = get_kept xs ys n t e

get_seam : (xs : List UseTree) (t : UseTree) (ys : List UseTree) → slice_get (xs ++ t ∷ ys) (length xs) ≡ Some t
get_seam [] t ys = refl
get_seam (x ∷ xs) t ys = get_seam xs t ys

still_in : (trees more : List UseTree) (n : ℕ) (parent : Option ℕ) → ListIn trees n parent → ListIn (trees ++ more) n parent
still_in trees more n parent l = record { list = l.list; there = get_kept trees more n l.list l.there; in_it = l.in_it }

outer_is : (trees : List UseTree) (n : ℕ) (parent : Option ℕ) → ListIn trees n parent → outer trees (Some n) ≡ parent
outer_is trees n parent l = ap parent_of l.there ∙ l.in_it

module _ (end : ℕ) where
  -- what stands between trees
  comma_goes : (trees : List UseTree) (parent : Option ℕ) (i : ℕ) (m : Lexeme) (ls : List Lexeme) (b : ℕ) → IsMark b m → (is_mark 44 m.kind || is_mark 59 m.kind) ≡ true → i < end
      → use_trees_from end trees parent 0 i (m ∷ ls) ≡ use_trees_from end trees parent 0 (i + 1) ls
  unfolding step_of
  comma_goes trees parent i m ls b is test within =
      let s : Step = record { tree = None; parent = parent; behind = i + 1 } in
      let one : (i + 1) - i ≡ 1 = omega arith in
      one_step end trees parent i (m ∷ ls) s (omega arith) within (sym (chosen (is_mark 44 m.kind || is_mark 59 m.kind) test)) (omega arith)
      ∙ ap (λ k. use_trees_from end trees parent 0 (i + 1) (drop k (m ∷ ls))) one
    where
      chosen : (a : Bool) → a ≡ true
          → (if a then record { tree = None; parent = parent; behind = i + 1 } else if closes_list m.kind then record { tree = None; parent = outer trees parent; behind = i + 1 } else step_to (first_use_tree i parent (m ∷ ls)) (length trees))
          ≡ record { tree = None; parent = parent; behind = i + 1 }
      chosen a h = rw h refl

  -- the brace of a list
  close_goes : (trees : List UseTree) (n : ℕ) (parent : Option ℕ) (i : ℕ) (c : Lexeme) (ls : List Lexeme) → IsClose c → ListIn trees n parent → i < end
      → use_trees_from end trees (Some n) 0 i (c ∷ ls) ≡ use_trees_from end trees parent 0 (i + 1) ls
  unfolding step_of
  close_goes trees n parent i c ls is l within =
      let s : Step = record { tree = None; parent = outer trees (Some n); behind = i + 1 } in
      let one : (i + 1) - i ≡ 1 = omega arith in
      one_step end trees (Some n) i (c ∷ ls) s (omega arith) within
      (sym (chosen (is_mark 44 c.kind || is_mark 59 c.kind) (closes_list c.kind) (ap (λ k. is_mark 44 k || is_mark 59 k) is) (ap closes_list is))) (omega arith)
      ∙ ap (λ k. use_trees_from end trees (outer trees (Some n)) 0 (i + 1) (drop k (c ∷ ls))) one ∙ ap (λ p. use_trees_from end trees p 0 (i + 1) ls) (outer_is trees n parent l)
    where
      chosen : (a b : Bool) → a ≡ false → b ≡ true
          → (if a then record { tree = None; parent = Some n; behind = i + 1 } else if b then record { tree = None; parent = outer trees (Some n); behind = i + 1 } else step_to (first_use_tree i (Some n) (c ∷ ls)) (length trees))
          ≡ record { tree = None; parent = outer trees (Some n); behind = i + 1 }
      chosen a b h k = rw (h, k) refl

  sum_of : (i n m : ℕ) → i + n + m ≡ i + (n + m)
  sum_of i n m = omega arith

  begins_along : (xs ys : List Lexeme) → xs ≡ ys → Begins (lexeme_at xs 0) → Begins (lexeme_at ys 0)
  begins_along xs ys e b = subst (λ ls. Begins (lexeme_at ls 0)) e b

  mutual
    written : (t : Written) → IsUseTree t → (i : ℕ) (trees : List UseTree) (parent : Option ℕ) (ls : List Lexeme) → Follows ls → i + length (lexemes_of t) ≤ end
        → use_trees_from end trees parent 0 i (lexemes_of t ++ ls) ≡ use_trees_from end (trees ++ rows t i (length trees) parent) parent 0 (i + length (lexemes_of t)) ls
    written (Name p s) h i trees parent ls follows within =
        let front = prefix_of p in
        let size = length-append front (s ∷ []) in
        tree_goes end trees parent i (front ++ s ∷ []) ls (with_tail i parent (length front + 1) (record { kind = tree.Single; alias = false; len = 0 })) (omega (arith, size)) within
        (begins_along (front ++ s ∷ ls) ((front ++ s ∷ []) ++ ls) (sym (append_assoc front (s ∷ []) ls)) (name_begins p s ls h.0 h.1))
        (name_row p s ls i parent h.0 h.1 follows) (omega (arith, size))
    written (Renamed p s a m) h i trees parent ls follows within =
        let front = prefix_of p in
        let size = length-append front (s ∷ a ∷ m ∷ []) in
        tree_goes end trees parent i (front ++ s ∷ a ∷ m ∷ []) ls (with_tail i parent (length front + 1) (record { kind = tree.Single; alias = true; len = 2 })) (omega (arith, size)) within
        (begins_along (front ++ s ∷ a ∷ m ∷ ls) ((front ++ s ∷ a ∷ m ∷ []) ++ ls) (sym (append_assoc front (s ∷ a ∷ m ∷ []) ls)) (name_begins p s (a ∷ m ∷ ls) h.0 h.1))
        (renamed_row p s a m ls i parent h.0 h.1 h.2 h.3) (omega (arith, size))
    written (Glob p star) h i trees parent ls follows within =
        let front = prefix_of p in
        let size = length-append front (star ∷ []) in
        tree_goes end trees parent i (front ++ star ∷ []) ls (with_tail i parent (length front) (record { kind = tree.Glob; alias = false; len = 1 })) (omega (arith, size)) within
        (begins_along (front ++ star ∷ ls) ((front ++ star ∷ []) ++ ls) (sym (append_assoc front (star ∷ []) ls)) (glob_begins p star ls h.0 h.1))
        (glob_row p star ls i parent h.0 h.1) (omega (arith, size))
    written (List_ p o ts) h i trees parent ls follows within =
        let front = prefix_of p in
        let row = with_tail i parent (length front) (record { kind = tree.Prefixed; alias = false; len = 1 }) in
        let more = list_lexemes_of ts ++ ls in
        let size = length-append front (o ∷ []) in
        let whole = length-append front (o ∷ list_lexemes_of ts) in
        let j = i + length (front ++ o ∷ []) in
        let at : j ≡ i + (length front + 1) = ap (λ k. i + k) size in
        let after : j + length (list_lexemes_of ts) ≡ i + length (front ++ o ∷ list_lexemes_of ts) = omega (arith, size, whole) in
        ap (use_trees_from end trees parent 0 i) (append_assoc front (o ∷ list_lexemes_of ts) ls ∙ sym (append_assoc front (o ∷ []) more))
        ∙ tree_goes end trees parent i (front ++ o ∷ []) more row (omega (arith, size)) (omega (arith, size, whole))
        (begins_along (front ++ o ∷ more) ((front ++ o ∷ []) ++ more) (sym (append_assoc front (o ∷ []) more)) (list_begins p o more h.0 h.1))
        (ap (first_use_tree i parent) (append_assoc front (o ∷ []) more) ∙ list_row p o more i parent h.0 h.1) (omega (arith, size))
        ∙ listed ts h.2 j (trees ++ row ∷ []) (length trees) parent ls (record { list = row; there = get_seam trees row []; in_it = refl }) (omega (arith, size, whole))
        ∙ ap (λ k. use_trees_from end ((trees ++ row ∷ []) ++ list_rows ts j (length (trees ++ row ∷ [])) (Some (length trees))) parent 0 k ls) after
        ∙ ap (λ k. use_trees_from end ((trees ++ row ∷ []) ++ list_rows ts k (length (trees ++ row ∷ [])) (Some (length trees))) parent 0 (i + length (front ++ o ∷ list_lexemes_of ts)) ls) at
        ∙ ap (λ k. use_trees_from end ((trees ++ row ∷ []) ++ list_rows ts (i + (length front + 1)) k (Some (length trees))) parent 0 (i + length (front ++ o ∷ list_lexemes_of ts)) ls) (length-append trees (row ∷ []))
        ∙ ap (λ rs. use_trees_from end rs parent 0 (i + length (front ++ o ∷ list_lexemes_of ts)) ls) (append_assoc trees (row ∷ []) (list_rows ts (i + (length front + 1)) (length trees + 1) (Some (length trees))))

    listed : (ts : WrittenList) → IsList ts → (i : ℕ) (trees : List UseTree) (n : ℕ) (parent : Option ℕ) (ls : List Lexeme) → ListIn trees n parent → i + length (list_lexemes_of ts) ≤ end
        → use_trees_from end trees (Some n) 0 i (list_lexemes_of ts ++ ls) ≡ use_trees_from end (trees ++ list_rows ts i (length trees) (Some n)) parent 0 (i + length (list_lexemes_of ts)) ls
    listed (End c) h i trees n parent ls l within =
        close_goes trees n parent i c ls h l (omega arith) ∙ ap (λ rs. use_trees_from end rs parent 0 (i + 1) ls) (sym (append-nil trees))
    listed (Last t c) h i trees n parent ls l within =
        let size = length-append (lexemes_of t) (c ∷ []) in
        let more = rows t i (length trees) (Some n) in
        let j = i + length (lexemes_of t) in
        let after : j + 1 ≡ i + length (lexemes_of t ++ c ∷ []) = omega (arith, size) in
        ap (use_trees_from end trees (Some n) 0 i) (append_assoc (lexemes_of t) (c ∷ []) ls)
        ∙ written t h.0 i trees (Some n) (c ∷ ls) (close c ls h.1) (omega (arith, size))
        ∙ close_goes (trees ++ more) n parent j c ls h.1 (still_in trees more n parent l) (omega (arith, size))
        ∙ ap (λ k. use_trees_from end (trees ++ more) parent 0 k ls) after
    listed (More t m ts) h i trees n parent ls l within =
        let size = length-append (lexemes_of t) (m ∷ list_lexemes_of ts) in
        let more = rows t i (length trees) (Some n) in
        let j = i + length (lexemes_of t) in
        let rest = list_lexemes_of ts ++ ls in
        let after : j + 1 + length (list_lexemes_of ts) ≡ i + length (lexemes_of t ++ m ∷ list_lexemes_of ts) = omega (arith, size) in
        ap (use_trees_from end trees (Some n) 0 i) (append_assoc (lexemes_of t) (m ∷ list_lexemes_of ts) ls)
        ∙ written t h.0 i trees (Some n) (m ∷ rest) (comma m rest h.1) (omega (arith, size))
        ∙ comma_goes (trees ++ more) (Some n) j m rest 44 h.1 (ap (λ k. is_mark 44 k || is_mark 59 k) h.1) (omega (arith, size))
        ∙ listed ts h.2 (j + 1) (trees ++ more) n parent ls (still_in trees more n parent l) (omega (arith, size))
        ∙ ap (λ k. use_trees_from end ((trees ++ more) ++ list_rows ts (j + 1) (length (trees ++ more)) (Some n)) parent 0 k ls) after
        ∙ ap (λ k. use_trees_from end ((trees ++ more) ++ list_rows ts (j + 1) k (Some n)) parent 0 (i + length (lexemes_of t ++ m ∷ list_lexemes_of ts)) ls) (length-append trees more)
        ∙ ap (λ rs. use_trees_from end rs parent 0 (i + length (lexemes_of t ++ m ∷ list_lexemes_of ts)) ls) (append_assoc trees more (list_rows ts (j + 1) (length trees + length more) (Some n)))

-- a tree and its semicolon
pub rows_of_written : (lexemes : List Lexeme) (range : Range) (t : Written) → Writes lexemes range t → use_trees_of lexemes range ≡ rows t range.first 0 None
rows_of_written lexemes range t w =
    let end = range.behind in
    let at = range.first + length (lexemes_of t) in
    let behind : at + 1 ≡ end = sym w.behind in
    ap (use_trees_from end [] None 0 range.first) w.there
    ∙ written end t w.tree range.first [] None (w.semicolon ∷ w.rest) (semicolon w.semicolon w.rest w.ends) (omega arith)
    ∙ comma_goes end (rows t range.first 0 None) None at w.semicolon w.rest 59 w.ends (ap (λ k. is_mark 44 k || is_mark 59 k) w.ends) (omega arith)
    ∙ nothing_read end (rows t range.first 0 None) None (at + 1) w.rest (omega arith)

-- The row of a use tree that is written by the grammar.
use Rattle.std.proofs.Common.{◌≡◌, ◌+◌, ◌-◌, ◌==◌, ◌<◌, ◌≤◌, ℕ, suc, Bool, true, false, List, [], ◌∷◌, ◌++◌, length, drop, refl, ap, sym, ◌∙◌, append_assoc, arith, length-append}
use Rattle.std.specs.Prelude.{◌||◌, Option, None, if◌then◌else◌}
use Rattle.std.proofs.Math.Seq.{drop-append_seam}
use Rattle.item_tree.specs.Heads.{is_mark}
use Rattle.item_tree.specs.ItemKinds.{is_segment, part_behind}
use Rattle.item_tree.specs.UseGrammar.{Prefix, Nothing, Colons, Behind, prefix_of, IsPrefix, IsSegment, IsMark, IsAs, IsAlias, IsOpen, IsClose}
use Rattle.item_tree.specs.UseTrees.{takes_segment, path_len, path_alone, renamed, tail_of, with_tail, with_path, first_use_tree, inner, outer, closes_list, step_to, step_of, use_trees_from}
use Rattle.item_tree.specs.Visibilities.{lexeme_at}
use Rattle.item_tree.specs.declared.items.item_kind.PathPart.{PathPart}
use Rattle.item_tree.specs.declared.items.item_kind.PathPart.TheVariants as part
use Rattle.item_tree.specs.declared.lexer.lexeme.Delimiter.TheVariants.{Brace}
use Rattle.item_tree.specs.declared.lexer.lexeme.Lexeme.{Lexeme}
use Rattle.item_tree.specs.declared.lexer.lexeme.LexemeKind.{LexemeKind}
use Rattle.item_tree.specs.declared.lexer.lexeme.LexemeKind.TheVariants as kind
use Rattle.item_tree.specs.declared.items.use_tree.Tail.{Tail}
use Rattle.item_tree.specs.declared.items.use_tree.UseTree.{UseTree}
use Rattle.item_tree.specs.declared.items.use_tree.UseTreeKind.TheVariants as tree
use Rattle.item_tree.proofs.NextUseTree.{one_step}

-- the lexeme behind some
pub at_seam : (xs : List Lexeme) (y : Lexeme) (zs : List Lexeme) → lexeme_at (xs ++ y ∷ zs) (length xs) ≡ y.kind
at_seam [] y zs = refl
at_seam (x ∷ xs) y zs = at_seam xs y zs

pub next_at_seam : (xs : List Lexeme) (y z : Lexeme) (zs : List Lexeme) → lexeme_at (xs ++ y ∷ z ∷ zs) (length xs + 1) ≡ z.kind
next_at_seam xs y z zs =
    let n : length (xs ++ y ∷ []) ≡ length xs + 1 = omega (arith, length-append xs (y ∷ [])) in
    ap (λ k. lexeme_at (xs ++ y ∷ z ∷ zs) k) (sym n) ∙ ap (λ ls. lexeme_at ls (length (xs ++ y ∷ []))) (sym (append_assoc xs (y ∷ []) (z ∷ zs))) ∙ at_seam (xs ++ y ∷ []) z zs

-- what no comma, semicolon or closing brace begins
pub record Begins (k : LexemeKind) : Type 0 where
  pub no_comma : is_mark 44 k ≡ false
  pub no_semicolon : is_mark 59 k ≡ false
  pub no_close : closes_list k ≡ false

segment_begins : (k : LexemeKind) → is_segment k ≡ true → Begins k
segment_begins (kind.Word w) h = record { no_comma = refl; no_semicolon = refl; no_close = refl }
segment_begins (kind.Open d) h = absurd cc
segment_begins (kind.Close d) h = absurd cc
segment_begins (kind.Mark b) h = absurd cc
segment_begins kind.Lifetime h = absurd cc
segment_begins kind.Str h = absurd cc
segment_begins kind.Literal h = absurd cc
segment_begins kind.Error h = absurd cc

mark_of : (b : ℕ) (k : LexemeKind) → k ≡ kind.Mark b → is_mark 44 (kind.Mark b) ≡ false → is_mark 59 (kind.Mark b) ≡ false → Begins k
mark_of b k e c s = record { no_comma = ap (is_mark 44) e ∙ c; no_semicolon = ap (is_mark 59) e ∙ s; no_close = ap closes_list e }

begins_with : (k m : LexemeKind) → k ≡ m → Begins m → Begins k
begins_with k m e b = record { no_comma = ap (is_mark 44) e ∙ b.no_comma; no_semicolon = ap (is_mark 59) e ∙ b.no_semicolon; no_close = ap closes_list e ∙ b.no_close }

prefix_begins : (p : Prefix) → IsPrefix p → (x : Lexeme) (rest : List Lexeme) → Begins x.kind → Begins (lexeme_at (prefix_of p ++ x ∷ rest) 0)
prefix_begins Nothing h x rest b = b
prefix_begins (Colons c d) h x rest b = mark_of 58 c.kind h.0 refl refl
prefix_begins (Behind p s c d) h x rest b =
    begins_with (lexeme_at ((prefix_of p ++ s ∷ c ∷ d ∷ []) ++ x ∷ rest) 0) (lexeme_at (prefix_of p ++ s ∷ c ∷ d ∷ x ∷ rest) 0)
    (ap (λ ls. lexeme_at ls 0) (append_assoc (prefix_of p) (s ∷ c ∷ d ∷ []) (x ∷ rest))) (prefix_begins p h.0 s (c ∷ d ∷ x ∷ rest) (segment_begins s.kind h.1))

-- how a path goes on behind a prefix
abbrev part_of : Prefix → PathPart
part_of Nothing = part.Start
part_of (Colons a b) = part.Segment
part_of (Behind p s a b) = part.Segment

one_more : (p : PathPart) (l : Lexeme) (ls : List Lexeme) → takes_segment p l.kind ≡ true → path_len p (l ∷ ls) ≡ 1 + path_len (part_behind p l.kind) ls
one_more p l ls e = ap (λ b. if b then 1 + path_len (part_behind p l.kind) ls else 0) e

no_more : (p : PathPart) (l : Lexeme) (ls : List Lexeme) → takes_segment p l.kind ≡ false → path_len p (l ∷ ls) ≡ 0
no_more p l ls e = ap (λ b. if b then 1 + path_len (part_behind p l.kind) ls else 0) e

-- a segment goes on a prefix
segment_taken : (p : Prefix) (k : LexemeKind) → is_segment k ≡ true → takes_segment (part_of p) k ≡ true
segment_taken Nothing (kind.Word w) h = rw h refl
segment_taken (Colons a b) (kind.Word w) h = rw h refl
segment_taken (Behind p s a b) (kind.Word w) h = rw h refl
segment_taken p (kind.Open d) h = absurd cc
segment_taken p (kind.Close d) h = absurd cc
segment_taken p (kind.Mark b) h = absurd cc
segment_taken p kind.Lifetime h = absurd cc
segment_taken p kind.Str h = absurd cc
segment_taken p kind.Literal h = absurd cc
segment_taken p kind.Error h = absurd cc

part_behind_segment : (p : Prefix) (k : LexemeKind) → is_segment k ≡ true → part_behind (part_of p) k ≡ part.Behind
part_behind_segment Nothing k h = ap (λ b. if b then part.Behind else part.Colon) h
part_behind_segment (Colons a b) k h = refl
part_behind_segment (Behind p s a b) k h = refl

segment_len : (p : Prefix) (s : Lexeme) (ls : List Lexeme) → IsSegment s → path_len (part_of p) (s ∷ ls) ≡ 1 + path_len part.Behind ls
segment_len p s ls h = one_more (part_of p) s ls (segment_taken p s.kind h) ∙ ap (λ q. 1 + path_len q ls) (part_behind_segment p s.kind h)

-- two colons behind a segment, or before all
colons_behind : (a b : Lexeme) (ls : List Lexeme) → IsMark 58 a → IsMark 58 b → path_len part.Behind (a ∷ b ∷ ls) ≡ 1 + (1 + path_len part.Segment ls)
colons_behind a b ls ha hb =
    one_more part.Behind a (b ∷ ls) (ap (takes_segment part.Behind) ha)
    ∙ ap (λ k. 1 + path_len (part_behind part.Behind k) (b ∷ ls)) ha ∙ ap (λ n. 1 + n) (one_more part.Colon b ls (ap (takes_segment part.Colon) hb))

colons_first : (a b : Lexeme) (ls : List Lexeme) → IsMark 58 a → IsMark 58 b → path_len part.Start (a ∷ b ∷ ls) ≡ 1 + (1 + path_len part.Segment ls)
colons_first a b ls ha hb =
    one_more part.Start a (b ∷ ls) (ap (takes_segment part.Start) ha)
    ∙ ap (λ k. 1 + path_len (part_behind part.Start k) (b ∷ ls)) ha ∙ ap (λ n. 1 + n) (one_more part.Colon b ls (ap (takes_segment part.Colon) hb))

three_more : (n m : ℕ) → n + (1 + (1 + (1 + m))) ≡ n + 3 + m
three_more n m = omega arith

pub prefix_len : (p : Prefix) → IsPrefix p → (ls : List Lexeme) → path_len part.Start (prefix_of p ++ ls) ≡ length (prefix_of p) + path_len (part_of p) ls
prefix_len Nothing h ls = omega arith
prefix_len (Colons a b) h ls = colons_first a b ls h.0 h.1 ∙ two (path_len part.Segment ls)
  where
    two : (m : ℕ) → 1 + (1 + m) ≡ 2 + m
    two m = omega arith
prefix_len (Behind p s a b) h ls =
    let front = prefix_of p in
    let len : length front + 3 ≡ length (front ++ s ∷ a ∷ b ∷ []) = sym (length-append front (s ∷ a ∷ b ∷ [])) in
    ap (path_len part.Start) (append_assoc front (s ∷ a ∷ b ∷ []) ls)
    ∙ prefix_len p h.0 (s ∷ a ∷ b ∷ ls)
    ∙ ap (λ n. length front + n) (segment_len p s (a ∷ b ∷ ls) h.1 ∙ ap (λ n. 1 + n) (colons_behind a b ls h.2 h.3))
    ∙ three_more (length front) (path_len part.Segment ls) ∙ ap (λ n. n + path_len part.Segment ls) len

-- a star or a list goes on no path
star_alone : (p : Prefix) (star : Lexeme) (ls : List Lexeme) → IsMark 42 star → path_len (part_of p) (star ∷ ls) ≡ 0
star_alone Nothing star ls h = no_more part.Start star ls (ap (takes_segment part.Start) h)
star_alone (Colons a b) star ls h = no_more part.Segment star ls (ap (takes_segment part.Segment) h)
star_alone (Behind p s a b) star ls h = no_more part.Segment star ls (ap (takes_segment part.Segment) h)

list_alone : (p : Prefix) (o : Lexeme) (ls : List Lexeme) → IsOpen o → path_len (part_of p) (o ∷ ls) ≡ 0
list_alone Nothing o ls h = no_more part.Start o ls (ap (takes_segment part.Start) h)
list_alone (Colons a b) o ls h = no_more part.Segment o ls (ap (takes_segment part.Segment) h)
list_alone (Behind p s a b) o ls h = no_more part.Segment o ls (ap (takes_segment part.Segment) h)

-- what may follow a use tree: a comma, a closing brace or a semicolon
pub data Follows : List Lexeme → Type 0 where
  comma : (l : Lexeme) (ls : List Lexeme) → IsMark 44 l → Follows (l ∷ ls)
  close : (l : Lexeme) (ls : List Lexeme) → IsClose l → Follows (l ∷ ls)
  semicolon : (l : Lexeme) (ls : List Lexeme) → IsMark 59 l → Follows (l ∷ ls)

path_ends : (ls : List Lexeme) → Follows ls → path_len part.Behind ls ≡ 0
path_ends _ (comma l ls h) = no_more part.Behind l ls (ap (takes_segment part.Behind) h)
path_ends _ (close l ls h) = no_more part.Behind l ls (ap (takes_segment part.Behind) h)
path_ends _ (semicolon l ls h) = no_more part.Behind l ls (ap (takes_segment part.Behind) h)

-- the parts behind a path
pub name_tail : Tail
name_tail = record { kind = tree.Single; alias = false; len = 0 }

abbrev single : Tail
single = record { kind = tree.Single; alias = false; len = 0 }

segment_no_mark : (k : LexemeKind) → is_segment k ≡ true → is_mark 58 k ≡ false
segment_no_mark (kind.Word w) h = refl
segment_no_mark (kind.Open d) h = absurd cc
segment_no_mark (kind.Close d) h = absurd cc
segment_no_mark (kind.Mark b) h = absurd cc
segment_no_mark kind.Lifetime h = absurd cc
segment_no_mark kind.Str h = absurd cc
segment_no_mark kind.Literal h = absurd cc
segment_no_mark kind.Error h = absurd cc

alone_is : (last : LexemeKind) (n : ℕ) → is_segment last ≡ true → path_alone last (n + 1) ≡ single
alone_is last n h =
    let some : ((n + 1) == 0) ≡ false = grind arith in
    rw (some, segment_no_mark last h) refl

name_ends : (last : LexemeKind) (n : ℕ) (ls : List Lexeme) (next : LexemeKind) → is_segment last ≡ true → Follows ls → tail_of last (n + 1) (lexeme_at ls 0) next ≡ single
name_ends last n _ next h (comma l ls f) = ap (λ k. tail_of last (n + 1) k next) f ∙ alone_is last n h
name_ends last n _ next h (close l ls f) = ap (λ k. tail_of last (n + 1) k next) f ∙ alone_is last n h
name_ends last n _ next h (semicolon l ls f) = ap (λ k. tail_of last (n + 1) k next) f ∙ alone_is last n h

first_is : (i : ℕ) (parent : Option ℕ) (ls : List Lexeme) (n : ℕ) (t : Tail) → path_len part.Start ls ≡ n
    → tail_of (lexeme_at ls (n - 1)) n (lexeme_at ls n) (lexeme_at ls (n + 1)) ≡ t → first_use_tree i parent ls ≡ with_tail i parent n t
unfolding first_use_tree
first_is i parent ls n t len is = ap (λ k. with_path i parent k ls) len ∙ ap (with_tail i parent n) is

-- the rows of names, renamed names, globs and lists
pub name_row : (p : Prefix) (s : Lexeme) (rest : List Lexeme) (i : ℕ) (parent : Option ℕ) → IsPrefix p → IsSegment s → Follows rest
    → first_use_tree i parent ((prefix_of p ++ s ∷ []) ++ rest) ≡ with_tail i parent (length (prefix_of p) + 1) (record { kind = tree.Single; alias = false; len = 0 })
name_row p s rest i parent hp hs follows =
    let front = prefix_of p in
    let whole : (front ++ s ∷ []) ++ rest ≡ front ++ s ∷ rest = append_assoc front (s ∷ []) rest in
    let n = length front + 1 in
    let len : path_len part.Start (front ++ s ∷ rest) ≡ n
    = prefix_len p hp (s ∷ rest) ∙ ap (λ k. length front + k) (segment_len p s rest hs ∙ ap (λ k. 1 + k) (path_ends rest follows)) in
    let back : n - 1 ≡ length front = omega arith in
    let last : lexeme_at (front ++ s ∷ rest) (n - 1) ≡ s.kind = ap (lexeme_at (front ++ s ∷ rest)) back ∙ at_seam front s rest in
    let next : lexeme_at (front ++ s ∷ rest) n ≡ lexeme_at rest 0 = behind_seam front s rest in
    ap (first_use_tree i parent) whole
    ∙ first_is i parent (front ++ s ∷ rest) n single len
    (ap (λ k. tail_of k n (lexeme_at (front ++ s ∷ rest) n) (lexeme_at (front ++ s ∷ rest) (n + 1))) last
    ∙ ap (λ k. tail_of s.kind n k (lexeme_at (front ++ s ∷ rest) (n + 1))) next ∙ name_ends s.kind (length front) rest (lexeme_at (front ++ s ∷ rest) (n + 1)) hs follows)
  where
    behind_seam : (xs : List Lexeme) (y : Lexeme) (zs : List Lexeme) → lexeme_at (xs ++ y ∷ zs) (length xs + 1) ≡ lexeme_at zs 0
    behind_seam xs y [] = past xs y
      where
        past : (xs : List Lexeme) (y : Lexeme) → lexeme_at (xs ++ y ∷ []) (length xs + 1) ≡ lexeme_at [] 0
        past [] y = refl
        past (x ∷ xs) y = ap (λ k. lexeme_at (x ∷ (xs ++ y ∷ [])) k) (shift (length xs)) ∙ past xs y
          where
            shift : (n : ℕ) → suc n + 1 ≡ suc (n + 1)
            shift n = omega arith
    behind_seam xs y (z ∷ zs) = next_at_seam xs y z zs

pub renamed_row : (p : Prefix) (s a n : Lexeme) (rest : List Lexeme) (i : ℕ) (parent : Option ℕ) → IsPrefix p → IsSegment s → IsAs a → IsAlias n
    → first_use_tree i parent ((prefix_of p ++ s ∷ a ∷ n ∷ []) ++ rest) ≡ with_tail i parent (length (prefix_of p) + 1) (record { kind = tree.Single; alias = true; len = 2 })
renamed_row p s a n rest i parent hp hs ha hn =
    let front = prefix_of p in
    let ls = front ++ s ∷ a ∷ n ∷ rest in
    let m = length front + 1 in
    let len : path_len part.Start ls ≡ m
    = prefix_len p hp (s ∷ a ∷ n ∷ rest) ∙ ap (λ k. length front + k) (segment_len p s (a ∷ n ∷ rest) hs ∙ ap (λ k. 1 + k) (no_more part.Behind a (n ∷ rest) (ap (takes_segment part.Behind) ha))) in
    let two : lexeme_at ls m ≡ a.kind = next_at_seam front s a (n ∷ rest) in
    let size : length (front ++ s ∷ []) ≡ m = length-append front (s ∷ []) in
    let three : lexeme_at ls (m + 1) ≡ n.kind
    = ap (λ k. lexeme_at ls (k + 1)) (sym size) ∙ ap (λ xs. lexeme_at xs (length (front ++ s ∷ []) + 1)) (sym (append_assoc front (s ∷ []) (a ∷ n ∷ rest))) ∙ next_at_seam (front ++ s ∷ []) a n rest in
    ap (first_use_tree i parent) (append_assoc front (s ∷ a ∷ n ∷ []) rest)
    ∙ first_is i parent ls m (record { kind = tree.Single; alias = true; len = 2 }) len
    (ap (λ k. tail_of (lexeme_at ls (m - 1)) m k (lexeme_at ls (m + 1))) (two ∙ ha)
    ∙ ap renamed three ∙ ap (λ b. if b then record { kind = tree.Single; alias = true; len = 2 } else record { kind = tree.Error; alias = false; len = 1 }) hn)

no_addition : (n : ℕ) → n + 0 ≡ n
no_addition n = omega arith

pub glob_row : (p : Prefix) (star : Lexeme) (rest : List Lexeme) (i : ℕ) (parent : Option ℕ) → IsPrefix p → IsMark 42 star
    → first_use_tree i parent ((prefix_of p ++ star ∷ []) ++ rest) ≡ with_tail i parent (length (prefix_of p)) (record { kind = tree.Glob; alias = false; len = 1 })
glob_row p star rest i parent hp hs =
    let front = prefix_of p in
    let ls = front ++ star ∷ rest in
    let n = length front in
    let len : path_len part.Start ls ≡ n = prefix_len p hp (star ∷ rest) ∙ ap (λ k. n + k) (star_alone p star rest hs) ∙ no_addition n in
    ap (first_use_tree i parent) (append_assoc front (star ∷ []) rest)
    ∙ first_is i parent ls n (record { kind = tree.Glob; alias = false; len = 1 }) len
    (ap (λ k. tail_of (lexeme_at ls (n - 1)) n k (lexeme_at ls (n + 1))) (at_seam front star rest ∙ hs))

pub list_row : (p : Prefix) (o : Lexeme) (rest : List Lexeme) (i : ℕ) (parent : Option ℕ) → IsPrefix p → IsOpen o
    → first_use_tree i parent (prefix_of p ++ o ∷ rest) ≡ with_tail i parent (length (prefix_of p)) (record { kind = tree.Prefixed; alias = false; len = 1 })
list_row p o rest i parent hp ho =
    let front = prefix_of p in
    let ls = front ++ o ∷ rest in
    let n = length front in
    let len : path_len part.Start ls ≡ n = prefix_len p hp (o ∷ rest) ∙ ap (λ k. n + k) (list_alone p o rest ho) ∙ no_addition n in
    first_is i parent ls n (record { kind = tree.Prefixed; alias = false; len = 1 }) len
    (ap (λ k. tail_of (lexeme_at ls (n - 1)) n k (lexeme_at ls (n + 1))) (at_seam front o rest ∙ ho))

-- each begins as no comma, semicolon or closing brace does
pub name_begins : (p : Prefix) (s : Lexeme) (rest : List Lexeme) → IsPrefix p → IsSegment s → Begins (lexeme_at (prefix_of p ++ s ∷ rest) 0)
name_begins p s rest hp hs = prefix_begins p hp s rest (segment_begins s.kind hs)

pub glob_begins : (p : Prefix) (star : Lexeme) (rest : List Lexeme) → IsPrefix p → IsMark 42 star → Begins (lexeme_at (prefix_of p ++ star ∷ rest) 0)
glob_begins p star rest hp hs = prefix_begins p hp star rest (mark_of 42 star.kind hs refl refl)

pub list_begins : (p : Prefix) (o : Lexeme) (rest : List Lexeme) → IsPrefix p → IsOpen o → Begins (lexeme_at (prefix_of p ++ o ∷ rest) 0)
list_begins p o rest hp ho =
    prefix_begins p hp o rest (begins_with o.kind (kind.Open Brace) ho (record { no_comma = refl; no_semicolon = refl; no_close = refl }))

-- a tree is read
pub tree_goes : (end : ℕ) (trees : List UseTree) (parent : Option ℕ) (i : ℕ) (head rest : List Lexeme) (row : UseTree) → 0 < length head → i + length head ≤ end
    → Begins (lexeme_at (head ++ rest) 0) → first_use_tree i parent (head ++ rest) ≡ row → row.behind ≡ i + length head
    → use_trees_from end trees parent 0 i (head ++ rest) ≡ use_trees_from end (trees ++ row ∷ []) (inner row (length trees)) 0 (i + length head) rest
unfolding step_of
tree_goes end trees parent i head rest row some within begins is behind =
    let ls = head ++ rest in
    let size = length-append head rest in
    let long : 0 < length ls = omega (arith, size) in
    let step : step_to row (length trees) ≡ step_of trees parent i ls
    = ap (λ (t : UseTree). step_to t (length trees)) (sym is) ∙ sym (chosen (is_mark 44 (lexeme_at ls 0)) (is_mark 59 (lexeme_at ls 0)) (closes_list (lexeme_at ls 0)) begins.no_comma begins.no_semicolon begins.no_close) in
    let forward : i < row.behind = omega arith in
    let more : row.behind - i ≡ length head = omega arith in
    one_step end trees parent i ls (step_to row (length trees)) long (omega arith) step forward
    ∙ ap (λ k. use_trees_from end (trees ++ row ∷ []) (inner row (length trees)) 0 row.behind (drop k ls)) more
    ∙ ap (λ xs. use_trees_from end (trees ++ row ∷ []) (inner row (length trees)) 0 row.behind xs) (drop-append_seam head rest)
    ∙ ap (λ k. use_trees_from end (trees ++ row ∷ []) (inner row (length trees)) 0 k rest) behind
  where
    chosen : (a b c : Bool) → a ≡ false → b ≡ false → c ≡ false
        → (if a || b then record { tree = None; parent = parent; behind = i + 1 } else if c then record { tree = None; parent = outer trees parent; behind = i + 1 } else step_to (first_use_tree i parent (head ++ rest)) (length trees)) ≡ step_to (first_use_tree i parent (head ++ rest)) (length trees)
    chosen a b c ha hb hc = rw (ha, hb, hc) refl

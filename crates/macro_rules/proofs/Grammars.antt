-- Rows that lay out a matcher have a parse where the matcher has one, as a grammar.
use Rattle.std.proofs.Common.{◌≡◌, ◌∙◌, ℕ, ◌+◌, ◌≤◌, Bool, true, false, Option, Some, None, List, [], ◌∷◌, length, drop, slice_get, refl, ap, sym, arith, cond}
use Rattle.macro_rules.specs.Beginnings.{begins}
use Rattle.macro_rules.specs.Fragments.{fragment_len}
use Rattle.macro_rules.specs.Grammar.{Operator, Matcher, empty, token, variable, repetition, once_more, at_end, by_token, by_variable, left_out, last, again, separated, EndsAs, once, joined, parted, LaysOut, no_rows, token_row, variable_row, repetition_rows}
use Rattle.macro_rules.specs.Grammar as grammar
use Rattle.macro_rules.specs.Runs.{took, Steps, goes_on, turns, takes, reads, Reaches, steps}
use Rattle.macro_rules.specs.Runs as run
use Rattle.macro_rules.specs.Threads as thread
use Rattle.macro_rules.specs.Threads.{ways_from, behind_token, variable_len}
use Rattle.macro_rules.specs.Tokens.{same}
use Rattle.macro_rules.specs.declared.row.Row.{Row}
use Rattle.macro_rules.specs.declared.row.Row.TheVariants as row
use Rattle.macro_rules.specs.declared.token.FragmentKind.{FragmentKind}
use Rattle.macro_rules.specs.declared.token.Token.{Token}
use Rattle.macro_rules.specs.declared.visits.Passage.{Passage}

if_same : (b : Bool) (k s : ℕ) → cond b (Some k) None ≡ Some s → (b ≡ true) × (s ≡ k)
if_same true k s h = let e : k ≡ s = cc in (refl, sym e)
if_same false k s h = cc

module _ (bytes : List ℕ) (rows : List Row) (ts : List Token) where
  -- where a matcher stands: at its first position, or at an iteration of the repetition that it begins with
  pub data Stand : ℕ → Matcher → ℕ → Type 0 where
    whole : {r s : ℕ} {m : Matcher} → LaysOut rows r m s → Stand r m s
    inside : {r s : ℕ} {body m : Matcher} {separator : Option Token} {op : Operator} → LaysOut rows r (repetition body separator op m) s → Stand (r + 1) (repetition body separator (once_more op) m) s

  -- a position is reached
  abbrev Out : ℕ → ℕ → Type 0
  Out r p = (ps : List Passage) × Reaches bytes rows ts r p ps

  onto : (r p s q : ℕ) → Out r p → Steps bytes rows ts r p s q → Out s q
  onto r p s q o step = (took r p q ∷ o.0, steps o.1 step)

  nexts : (r p s : ℕ) (x : Row) → slice_get rows r ≡ Some x → (ways_from (Some x) r).next ≡ Some s → Steps bytes rows ts r p s p
  nexts r p s x at h = goes_on (ap (λ (o : Option Row). (ways_from o r).next) at ∙ h)

  others : (r p s : ℕ) (x : Row) → slice_get rows r ≡ Some x → (ways_from (Some x) r).other ≡ Some s → Steps bytes rows ts r p s p
  others r p s x at h = turns (ap (λ (o : Option Row). (ways_from o r).other) at ∙ h)

  token_on : (r p s : ℕ) (x : Row) (t : Token) → slice_get rows r ≡ Some x → slice_get ts p ≡ Some t → behind_token bytes t (Some x) r ≡ Some s → Steps bytes rows ts r p s (p + 1)
  token_on r p s x t at here h = takes here (ap (λ (o : Option Row). behind_token bytes t o r) at ∙ h)

  -- a repetition at the start of an iteration
  record Started (body : Matcher) (separator : Option Token) (op : Operator) (m : Matcher) (s p : ℕ) : Type 0 where
    begin : ℕ
    ending : ℕ
    behind : ℕ
    own : Operator
    inner : LaysOut rows (begin + 2) body ending
    ends : EndsAs rows begin ending separator own behind
    repeats : own.repeats ≡ op.repeats
    rest : LaysOut rows behind m s
    start : Out (begin + 2) p
    next : Stand (begin + 1) (repetition body separator (once_more op) m) s

  iterated : (r p : ℕ) → slice_get rows (r + 1) ≡ Some row.Iteration → Out (r + 1) p → Out (r + 2) p
  iterated r p at o =
      let e : r + 1 + 1 ≡ r + 2 = omega arith in
      onto (r + 1) p (r + 2) p o (nexts (r + 1) p (r + 2) row.Iteration at (ap Some e))

  started : (body : Matcher) (separator : Option Token) (op : Operator) (m : Matcher) (c s p : ℕ) → Stand c (repetition body separator op m) s → Out c p → Started body separator op m s p
  started body separator op m c s p (whole (repetition_rows {begin} {e = e} {behind = b} at skip iteration inner ends rest)) o = record {
    begin = c;
    ending = e;
    behind = b;
    own = op;
    inner = inner;
    ends = ends;
    repeats = refl;
    rest = rest;
    start = iterated c p iteration (onto c p (c + 1) p o (nexts c p (c + 1) (row.Begin begin) at refl));
    next = inside (repetition_rows at skip iteration inner ends rest);
  }
  started body separator op m c s p (inside {r = r} {op = own} (repetition_rows {begin} {e = e} {behind = b} at skip iteration inner ends rest)) o = record {
    begin = r;
    ending = e;
    behind = b;
    own = own;
    inner = inner;
    ends = ends;
    repeats = refl;
    rest = rest;
    start = iterated r p iteration o;
    next = inside (repetition_rows at skip iteration inner ends rest);
  }

  -- behind the last iteration
  left : (r e p b : ℕ) (separator : Option Token) (op : Operator) → EndsAs rows r e separator op b → Out e p → Out b p
  left r e p b separator op (once not_again at) o = onto e p (e + 1) p o (nexts e p (e + 1) (row.End None) at refl)
  left r e p b separator op (joined does at) o = onto e p (e + 1) p o (nexts e p (e + 1) (row.End (Some (r + 1))) at refl)
  left r e p b separator op (parted at mark) o = onto e p (e + 2) p o (others e p (e + 2) (row.End (Some (e + 2))) at refl)

  -- to the next one
  joined_on : (r e p b : ℕ) (op : Operator) → EndsAs rows r e None op b → op.repeats ≡ true → Out e p → Out (r + 1) p
  joined_on r e p b op (once not_again at) does o = let never : true ≡ false = sym does ∙ not_again in cc
  joined_on r e p b op (joined own at) does o = onto e p (r + 1) p o (others e p (r + 1) (row.End (Some (r + 1))) at refl)

  parted_on : (r e p b : ℕ) (t x : Token) (op : Operator) → EndsAs rows r e (Some t) op b → slice_get ts p ≡ Some x → same bytes t x ≡ true → Out e p → Out (r + 1) (p + 1)
  parted_on r e p b t x op (parted at mark) here equal o =
      let there = onto e p (e + 1) p o (nexts e p (e + 1) (row.End (Some (e + 2))) at refl) in
      onto (e + 1) p (r + 1) (p + 1) there (token_on (e + 1) p (r + 1) (row.Separator t (r + 1)) x mark here (ap (λ (b : Bool). cond b (Some (r + 1)) None) equal))

  -- what the grammar parses is a way through the rows
  through : (m : Matcher) (p q : ℕ) → grammar.Parses bytes ts m p q → (c s : ℕ) → Stand c m s → Out c p → Out s q
  through m p q at_end c s (whole no_rows) o = o
  through m p q (by_token {t} {x} {m = n} here equal rest) c s (whole (token_row at more)) o =
      through n (p + 1) q rest (c + 1) s (whole more) (onto c p (c + 1) (p + 1) o (token_on c p (c + 1) (row.Token t) x at here (ap (λ (b : Bool). cond b (Some (c + 1)) None) equal)))
  through m p q (by_variable {k} {x} {m = n} {n = len} here may goes rest) c s (whole (variable_row {v} at is more)) o =
      let begins_v : thread.reads (slice_get rows c) (drop p ts) ≡ true = ap (λ (o : Option Row). thread.reads o (drop p ts)) at ∙ ap (λ (k : FragmentKind). begins k (drop p ts)) is ∙ may in
      let goes_v : variable_len (slice_get rows c) (drop p ts) ≡ Some len = ap (λ (o : Option Row). variable_len o (drop p ts)) at ∙ ap (λ (k : FragmentKind). fragment_len k (drop p ts)) is ∙ goes in
      through n (p + len) q rest (c + 1) s (whole more) (onto c p (c + 1) (p + len) o (reads here begins_v goes_v))
  through m p q (left_out {m = n} {op = op} skips rest) c s (whole (repetition_rows {begin} {behind = b} at skip iteration inner ends more)) o =
      through n p q rest b s (whole more) (onto c p b p o (others c p b (row.Begin begin) at (skip ∙ ap (λ (t : Bool). cond t (Some b) None) skips)))
  through m p q (left_out skips rest) c s (inside lay) o = cc
  through m p q (last {body} {m = n} {separator} {op} {r = r} one rest) c s stand o =
      let t = started body separator op n c s p stand o in
      through n r q rest t.behind s (whole t.rest) (left t.begin t.ending r t.behind separator t.own t.ends (through body p r one (t.begin + 2) t.ending (whole t.inner) t.start))
  through m p q (again {body} {m = n} {op} {r = r} does one rest) c s stand o =
      let t = started body None op n c s p stand o in
      through (repetition body None (once_more op) n) r q rest (t.begin + 1) s t.next (joined_on t.begin t.ending r t.behind t.own t.ends (t.repeats ∙ does) (through body p r one (t.begin + 2) t.ending (whole t.inner) t.start))
  through m p q (separated {body} {m = n} {t = mark} {x} {op} {r = r} one here equal rest) c s stand o =
      let t = started body (Some mark) op n c s p stand o in
      through (repetition body (Some mark) (once_more op) n) (r + 1) q rest (t.begin + 1) s t.next (parted_on t.begin t.ending r t.behind mark x t.own t.ends here equal (through body p r one (t.begin + 2) t.ending (whole t.inner) t.start))

  pub grammar_runs : (m : Matcher) (q : ℕ) → LaysOut rows 0 m (length rows) → length ts ≤ q → grammar.Parses bytes ts m 0 q → (ps : List Passage) × run.Parses bytes rows ts ps
  grammar_runs m q lay past parse =
      let o = through m 0 q parse 0 (length rows) (whole lay) ([], run.begins) in
      (took (length rows) q (length ts) ∷ o.0, record { place = q; before = o.0; reached = o.1; whole = past; are = refl })

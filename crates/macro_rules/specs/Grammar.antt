-- A matcher as a grammar: how it parses the tokens of a call, with no word of positions or threads, and how it is laid out.
use Rattle.std.specs.Prelude.{◌≡◌, ◌+◌, ℕ, Bool, true, false, List, Option, Some, None, drop, slice_get, if◌then◌else◌}
use Rattle.macro_rules.specs.Beginnings.{begins}
use Rattle.macro_rules.specs.Fragments.{fragment_len}
use Rattle.macro_rules.specs.Tokens.{same}
use Rattle.macro_rules.specs.declared.row.Repetition.{Repetition}
use Rattle.macro_rules.specs.declared.row.Row.{Row}
use Rattle.macro_rules.specs.declared.row.Row.TheVariants as row
use Rattle.macro_rules.specs.declared.row.Variable.{Variable}
use Rattle.macro_rules.specs.declared.token.FragmentKind.{FragmentKind}
use Rattle.macro_rules.specs.declared.token.Token.{Token}

-- what is left out or not, and repeated or not: `*`, `+` or `?`
pub record Operator : Type 0 where
  pub skips : Bool
  pub repeats : Bool

-- tokens, variables and repetitions, one behind the other; a group is its delimiters and what is within. `$( body ) separator op`
pub data Matcher : Type 0 where
  empty : Matcher
  token : Token → Matcher → Matcher
  variable : FragmentKind → Matcher → Matcher
  repetition : Matcher → Option Token → Operator → Matcher → Matcher

-- another iteration may come, and has to
abbrev pub once_more : Operator → Operator
once_more op = record op { skips = false }

-- a matcher parses the input from one place up to another
pub data Parses (bytes : List ℕ) (ts : List Token) : Matcher → ℕ → ℕ → Type 0 where
  at_end : {p : ℕ} → Parses bytes ts empty p p
  -- a token equals the one that stands there
  by_token : {t x : Token} {m : Matcher} {p q : ℕ} → slice_get ts p ≡ Some x → same bytes t x ≡ true → Parses bytes ts m (p + 1) q → Parses bytes ts (token t m) p q
  -- the fragment of a variable begins there, and goes so far
  by_variable : {k : FragmentKind} {x : Token} {m : Matcher} {p q n : ℕ} → slice_get ts p ≡ Some x → begins k (drop p ts) ≡ true → fragment_len k (drop p ts) ≡ Some n → Parses bytes ts m (p + n) q → Parses bytes ts (variable k m) p q
  -- a repetition is left out
  left_out : {body m : Matcher} {separator : Option Token} {op : Operator} {p q : ℕ} → op.skips ≡ true → Parses bytes ts m p q → Parses bytes ts (repetition body separator op m) p q
  -- or comes for the last time
  last : {body m : Matcher} {separator : Option Token} {op : Operator} {p q r : ℕ} → Parses bytes ts body p r → Parses bytes ts m r q → Parses bytes ts (repetition body separator op m) p q
  -- or comes once more behind an iteration
  again : {body m : Matcher} {op : Operator} {p q r : ℕ} → op.repeats ≡ true → Parses bytes ts body p r → Parses bytes ts (repetition body None (once_more op) m) r q → Parses bytes ts (repetition body None op m) p q
  -- and behind a separator
  separated : {body m : Matcher} {t x : Token} {op : Operator} {p q r : ℕ} → Parses bytes ts body p r → slice_get ts r ≡ Some x → same bytes t x ≡ true → Parses bytes ts (repetition body (Some t) (once_more op) m) (r + 1) q → Parses bytes ts (repetition body (Some t) op m) p q

-- the end of a repetition that begins at a position, up to the one behind it
pub data EndsAs (rows : List Row) (begin : ℕ) : ℕ → Option Token → Operator → ℕ → Type 0 where
  once : {e : ℕ} {op : Operator} → op.repeats ≡ false → slice_get rows e ≡ Some (row.End None) → EndsAs rows begin e None op (e + 1)
  joined : {e : ℕ} {op : Operator} → op.repeats ≡ true → slice_get rows e ≡ Some (row.End (Some (begin + 1))) → EndsAs rows begin e None op (e + 1)
  parted : {e : ℕ} {op : Operator} {t : Token} → slice_get rows e ≡ Some (row.End (Some (e + 2))) → slice_get rows (e + 1) ≡ Some (row.Separator t (begin + 1)) → EndsAs rows begin e (Some t) op (e + 2)

-- a matcher stands in rows from one position up to another
pub data LaysOut (rows : List Row) : ℕ → Matcher → ℕ → Type 0 where
  no_rows : {r : ℕ} → LaysOut rows r empty r
  token_row : {t : Token} {m : Matcher} {r s : ℕ} → slice_get rows r ≡ Some (row.Token t) → LaysOut rows (r + 1) m s → LaysOut rows r (token t m) s
  variable_row : {v : Variable} {k : FragmentKind} {m : Matcher} {r s : ℕ} → slice_get rows r ≡ Some (row.Variable v) → v.kind ≡ k → LaysOut rows (r + 1) m s → LaysOut rows r (variable k m) s
  repetition_rows : {begin : Repetition} {body m : Matcher} {separator : Option Token} {op : Operator} {r e behind s : ℕ} → slice_get rows r ≡ Some (row.Begin begin) → begin.behind ≡ (if op.skips then Some behind else None) → slice_get rows (r + 1) ≡ Some row.Iteration
      → LaysOut rows (r + 2) body e → EndsAs rows r e separator op behind → LaysOut rows behind m s → LaysOut rows r (repetition body separator op m) s

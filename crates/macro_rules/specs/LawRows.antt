-- Small macros, how their matchers parse a call, and how often their repetitions are written.
use Rattle.std.specs.Prelude.{◌≡◌, ◌+◌, ℕ, List, [], ◌∷◌, Some, None, true, false, map, codes, length}
use Rattle.dm_base.specs.declared.edition.Edition.TheVariants.{Edition2021}
use Rattle.item_tree.specs.declared.lexer.lexeme.Delimiter.TheVariants.{Parenthesis, Brace}
use Rattle.macro_rules.specs.Grammar.{LaysOut, empty, token, variable, repetition}
use Rattle.macro_rules.specs.Laws.{Expands}
use Rattle.macro_rules.specs.Repeats.{written_in}
use Rattle.macro_rules.specs.Rows.{w, g, arrow}
use Rattle.macro_rules.specs.RuleRows.{RuleRows}
use Rattle.macro_rules.specs.Rules.{rules_read}
use Rattle.macro_rules.specs.Runs.{took, Parses}
use Rattle.macro_rules.specs.Visits.{passages, visits}
use Rattle.macro_rules.specs.Walks.{Walked, walk}
use Rattle.macro_rules.specs.declared.matching.Outcome.{Outcome}
use Rattle.macro_rules.specs.declared.matching.Outcome.TheVariants.{Matches}
use Rattle.macro_rules.specs.declared.matching.Thread.{Thread}
use Rattle.macro_rules.specs.declared.row.Row.{Row}
use Rattle.macro_rules.specs.declared.row.Row.TheVariants as row
use Rattle.macro_rules.specs.declared.token.FragmentKind.TheVariants.{Ident}
use Rattle.macro_rules.specs.declared.token.Token.{Token}
use Rattle.macro_rules.specs.declared.token.TokenKind.TheVariants as kind
use Rattle.macro_rules.specs.declared.visits.Passage.{Passage}
use Rattle.macro_rules.specs.declared.writing.Level.{Level}

abbrev pub rules : List ℕ → List Token → List RuleRows
rules bytes definition = (rules_read (record { krate = 0; edition = Edition2021 }) bytes definition).rules

abbrev pub first : List RuleRows → RuleRows
first [] = record { matcher = []; transcriber = [] }
first (r ∷ others) = r

-- how the matcher of the first rule walks through a call
abbrev pub walked : List ℕ → RuleRows → List Token → Walked
walked bytes r call = walk bytes r.matcher call (length r.matcher + length r.matcher + 2) 50

abbrev pub last_of : Outcome → ℕ
last_of (Matches last) = last
last_of _ = 0

-- what its positions took, the last first
abbrev pub taken : List ℕ → List Token → List Token → List Passage
taken bytes definition call = passages (walked bytes (first (rules bytes definition)) call).log (last_of (walked bytes (first (rules bytes definition)) call).outcome) (length call)

-- at which iterations its repetitions are, behind so many steps of writing
abbrev pub turn_in : List ℕ → RuleRows → List Token → ℕ → List ℕ
turn_in bytes r call n =
    map (λ (l : Level). l.index)
    (written_in r.transcriber r.matcher (visits (walked bytes r call).log (last_of (walked bytes r call).outcome) (length call) (length r.matcher)) call n).levels

-- `($($a:ident),*) => { }`: begin, iteration, variable, end, separator
abbrev pub comma_text : List ℕ
comma_text = codes "($($a:ident),*) => { } A, B"

abbrev pub comma_list : List Token
comma_list =
    g (kind.Open Parenthesis) 0 ∷ g (kind.Mark 36) 1 ∷ g (kind.Open Parenthesis) 2 ∷ g (kind.Mark 36) 3 ∷ w 4 1 ∷ g (kind.Mark 58) 5 ∷ w 6 5 ∷ g (kind.Close Parenthesis) 11 ∷ g (kind.Mark 44) 12 ∷ g (kind.Mark 42) 13
    ∷ g (kind.Close Parenthesis) 14 ∷ arrow 16 ∷ g (kind.Open Brace) 19 ∷ g (kind.Close Brace) 21 ∷ []

-- two names
abbrev pub two_names : Type 0
two_names =
    taken comma_text comma_list (w 23 1 ∷ g (kind.Mark 44) 24 ∷ w 26 1 ∷ [])
    ≡ took 5 3 3 ∷ took 3 3 3 ∷ took 2 2 3 ∷ took 1 2 2 ∷ took 4 1 2 ∷ took 3 1 1 ∷ took 2 0 1 ∷ took 1 0 0 ∷ took 0 0 0 ∷ []

-- one name
abbrev pub one_name : Type 0
one_name = taken comma_text comma_list (w 23 1 ∷ []) ≡ took 5 1 1 ∷ took 3 1 1 ∷ took 2 0 1 ∷ took 1 0 0 ∷ took 0 0 0 ∷ []

-- none
abbrev pub no_name : Type 0
no_name = taken comma_text comma_list [] ≡ took 5 0 0 ∷ took 0 0 0 ∷ []

-- an ambiguous call: `($(a)? $(a)?) => { }` has two parses of `a`
abbrev pub optional_text : List ℕ
optional_text = codes "($(a)? $(a)?) => { } a"

abbrev pub optional_twice : List Token
optional_twice =
    g (kind.Open Parenthesis) 0 ∷ g (kind.Mark 36) 1 ∷ g (kind.Open Parenthesis) 2 ∷ w 3 1 ∷ g (kind.Close Parenthesis) 4 ∷ g (kind.Mark 63) 5 ∷ g (kind.Mark 36) 7 ∷ g (kind.Open Parenthesis) 8 ∷ w 9 1 ∷ g (kind.Close Parenthesis) 10
    ∷ g (kind.Mark 63) 11 ∷ g (kind.Close Parenthesis) 12 ∷ arrow 14 ∷ g (kind.Open Brace) 17 ∷ g (kind.Close Brace) 19 ∷ []

-- what is read of it: begin, iteration, token, end, twice
abbrev pub optional_rows : List Row
optional_rows =
    row.Begin (record { end = 3; behind = Some 4; within = None }) ∷ row.Iteration ∷ row.Token (w 3 1) ∷ row.End None ∷ row.Begin (record { end = 7; behind = Some 8; within = None }) ∷ row.Iteration ∷ row.Token (w 9 1) ∷ row.End None ∷ []

pub record TwoParses : Type 0 where
  pub are_rows : (first (rules optional_text optional_twice)).matcher ≡ optional_rows
  pub by_first : Parses optional_text optional_rows (w 21 1 ∷ []) (took 8 1 1 ∷ took 4 1 1 ∷ took 3 1 1 ∷ took 2 0 1 ∷ took 1 0 0 ∷ took 0 0 0 ∷ [])
  pub by_second : Parses optional_text optional_rows (w 21 1 ∷ []) (took 8 1 1 ∷ took 7 1 1 ∷ took 6 0 1 ∷ took 5 0 0 ∷ took 4 0 0 ∷ took 0 0 0 ∷ [])

abbrev pub comma_rows : List Row
comma_rows =
    row.Begin (record { end = 3; behind = Some 5; within = None }) ∷ row.Iteration ∷ row.Variable (record { name = w 4 1; kind = Ident; within = Some 0 }) ∷ row.End (Some 5) ∷ row.Separator (g (kind.Mark 44) 12) 1 ∷ []

-- the rows of both lay out what is written there
pub record AreGrammars : Type 0 where
  pub are_rows : (first (rules comma_text comma_list)).matcher ≡ comma_rows
  pub commas : LaysOut comma_rows 0 (repetition (variable Ident empty) (Some (g (kind.Mark 44) 12)) (record { skips = true; repeats = true }) empty) 5
  pub optional : LaysOut optional_rows 0 (repetition (token (w 3 1) empty) None (record { skips = true; repeats = false }) (repetition (token (w 9 1) empty) None (record { skips = true; repeats = false }) empty)) 8

-- what a call stands for: of two rules that parse it the first counts
abbrev pub first_text : List ℕ
first_text = codes "($a:ident) => { One } ; (a) => { Two } a"

abbrev pub first_rules : List RuleRows
first_rules =
    record { matcher = row.Variable (record { name = w 2 1; kind = Ident; within = None }) ∷ []; transcriber = row.Token (w 16 3) ∷ [] }
    ∷ record { matcher = row.Token (w 25 1) ∷ []; transcriber = row.Token (w 33 3) ∷ [] } ∷ []

pub record FirstCounts : Type 0 where
  pub are_rules :
      rules first_text (g (kind.Open Parenthesis) 0 ∷ g (kind.Mark 36) 1 ∷ w 2 1 ∷ g (kind.Mark 58) 3 ∷ w 4 5 ∷ g (kind.Close Parenthesis) 9 ∷ arrow 11 ∷ g (kind.Open Brace) 14 ∷ w 16 3 ∷ g (kind.Close Brace) 20 ∷ g (kind.Mark 59) 22
      ∷ g (kind.Open Parenthesis) 24 ∷ w 25 1 ∷ g (kind.Close Parenthesis) 26 ∷ arrow 28 ∷ g (kind.Open Brace) 31 ∷ w 33 3 ∷ g (kind.Close Brace) 37 ∷ [])
      ≡ first_rules
  pub stands_for : Expands first_text (w 39 1 ∷ []) 100 first_rules (w 16 3 ∷ [])

-- `($($a:ident)*) => { $($a)* }`: for two names the repetition is at its first iteration, at its second, and at none
abbrev pub repeat_text : List ℕ
repeat_text = codes "($($a:ident)*) => { $($a)* } A B"

abbrev pub repeat_list : List Token
repeat_list =
    g (kind.Open Parenthesis) 0 ∷ g (kind.Mark 36) 1 ∷ g (kind.Open Parenthesis) 2 ∷ g (kind.Mark 36) 3 ∷ w 4 1 ∷ g (kind.Mark 58) 5 ∷ w 6 5 ∷ g (kind.Close Parenthesis) 11 ∷ g (kind.Mark 42) 12 ∷ g (kind.Close Parenthesis) 13 ∷ arrow 15
    ∷ g (kind.Open Brace) 18 ∷ g (kind.Mark 36) 20 ∷ g (kind.Open Parenthesis) 21 ∷ g (kind.Mark 36) 22 ∷ w 23 1 ∷ g (kind.Close Parenthesis) 24 ∷ g (kind.Mark 42) 25 ∷ g (kind.Close Brace) 27 ∷ []

abbrev pub turns : List Token → List ℕ → List (List ℕ)
turns call steps = map (turn_in repeat_text (first (rules repeat_text repeat_list)) call) steps

abbrev pub twice : Type 0
twice = turns (w 29 1 ∷ w 31 1 ∷ []) (0 ∷ 1 ∷ 3 ∷ 4 ∷ 6 ∷ 7 ∷ []) ≡ [] ∷ (0 ∷ []) ∷ (0 ∷ []) ∷ (1 ∷ []) ∷ (1 ∷ []) ∷ [] ∷ []

abbrev pub once : Type 0
once = turns (w 29 1 ∷ []) (0 ∷ 1 ∷ 3 ∷ 4 ∷ []) ≡ [] ∷ (0 ∷ []) ∷ (0 ∷ []) ∷ [] ∷ []

abbrev pub never : Type 0
never = turns [] (0 ∷ 1 ∷ []) ≡ [] ∷ [] ∷ []

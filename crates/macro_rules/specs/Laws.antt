-- What a macro makes of a call, in the words of macros by example: a matcher is a grammar, a rule applies to a call that its matcher
-- parses, and what the parse captured is written.
use Rattle.std.specs.Prelude.{◌≡◌, ◌+◌, ◌≤◌, ℕ, List, ◌∷◌, Some, None, slice_get, length}
use Rattle.macro_rules.specs.Expansions.{of, expanded}
use Rattle.macro_rules.specs.Grammar.{Matcher, LaysOut}
use Rattle.macro_rules.specs.Grammar as grammar
use Rattle.macro_rules.specs.Layouts.{IsLaidOut}
use Rattle.macro_rules.specs.RuleRows.{RuleRows}
use Rattle.macro_rules.specs.Rules.{rules_read}
use Rattle.macro_rules.specs.Runs.{Parses, IsParsed, IsOnly}
use Rattle.macro_rules.specs.Visits.{all_noted, no_visits}
use Rattle.macro_rules.specs.Walks.{walk}
use Rattle.macro_rules.specs.Writings.{transcribed}
use Rattle.macro_rules.specs.declared.expand.ExpandFault.TheVariants.{NoRule}
use Rattle.macro_rules.specs.declared.expand.Limits.{Limits}
use Rattle.macro_rules.specs.declared.row.Row.{Row}
use Rattle.macro_rules.specs.declared.token.Home.{Home}
use Rattle.macro_rules.specs.declared.token.Token.{Token}
use Rattle.macro_rules.specs.declared.visits.Passage.{Passage}

-- no parse of a call is another one than that by which the rule matched, which is a parse; where the rule fails there is none
pub record IsTheOnlyParse (bytes : List ℕ) (rows : List Row) (ts : List Token) (closing limit : ℕ) : Type 0 where
  pub is_parsed : IsParsed bytes rows ts (walk bytes rows ts closing limit).log (walk bytes rows ts closing limit).outcome
  pub is_only : (ps : List Passage) → Parses bytes rows ts ps → IsOnly ts ps (walk bytes rows ts closing limit).log (walk bytes rows ts closing limit).outcome

-- the captures of a rule are a parse of the call by its matcher, and the only one, or the call is ambiguous
abbrev pub CapturesAreTheOnlyParse : Type 0
CapturesAreTheOnlyParse =
    (bytes : List ℕ) (rows : List Row) (ts : List Token) (closing limit : ℕ) → IsLaidOut rows → length rows + length rows + 2 ≤ closing → IsTheOnlyParse bytes rows ts closing limit

-- a transcriber writes these tokens, where a parse of the call captured what it did
abbrev pub Writes : RuleRows → List Token → ℕ → List Passage → List Token → Type 0
Writes r call steps ps out =
    of (transcribed r.transcriber r.matcher (all_noted ps (no_visits (length r.matcher))) call steps) ≡ record { tokens = out; fault = None }

-- what a call of a macro stands for: what the first rule writes whose matcher parses the call
pub data Expands (bytes : List ℕ) (call : List Token) (steps : ℕ) : List RuleRows → List Token → Type 0 where
  first : {r : RuleRows} {rules : List RuleRows} {ps : List Passage} {out : List Token} → Parses bytes r.matcher call ps → Writes r call steps ps out → Expands bytes call steps (r ∷ rules) out
  next : {r : RuleRows} {rules : List RuleRows} {out : List Token} → ((ps : List Passage) → ¬ Parses bytes r.matcher call ps) → Expands bytes call steps rules out → Expands bytes call steps (r ∷ rules) out

-- matchers are laid out
abbrev pub AreLaidOut : List RuleRows → Type 0
AreLaidOut rules = (i : ℕ) (r : RuleRows) → slice_get rules i ≡ Some r → IsLaidOut r.matcher

pub record IsTheOnlyExpansion (bytes : List ℕ) (rules : List RuleRows) (call : List Token) (steps : ℕ) (out : List Token) : Type 0 where
  pub is_one : Expands bytes call steps rules out
  pub is_only : (other : List Token) → Expands bytes call steps rules other → other ≡ out

-- an expansion is unique: what is written is what the call stands for, and it stands for nothing else
abbrev pub ExpansionsAreUnique : Type 0
ExpansionsAreUnique =
    (bytes : List ℕ) (rules : List RuleRows) (call : List Token) (limits : Limits) (out : List Token) → AreLaidOut rules → expanded bytes rules call limits ≡ record { tokens = out; fault = None }
    → IsTheOnlyExpansion bytes rules call limits.steps out

-- and where there is no rule, no matcher parses the call
abbrev pub NoRuleParses : Type 0
NoRuleParses =
    (bytes : List ℕ) (rules : List RuleRows) (call : List Token) (limits : Limits) → AreLaidOut rules → (expanded bytes rules call limits).fault ≡ Some NoRule
    → (i : ℕ) (r : RuleRows) → slice_get rules i ≡ Some r → (ps : List Passage) → ¬ Parses bytes r.matcher call ps

-- the matchers of rules that are read are laid out
abbrev pub RulesAreLaidOut : Type 0
RulesAreLaidOut = (home : Home) (bytes : List ℕ) (definition : List Token) → AreLaidOut (rules_read home bytes definition).rules

-- rows that lay out a matcher have a parse where the matcher has one, as a grammar
pub record IsParsedAlike (bytes : List ℕ) (rows : List Row) (ts : List Token) (m : Matcher) : Type 0 where
  pub by_rows : (q : ℕ) → length ts ≤ q → grammar.Parses bytes ts m 0 q → (ps : List Passage) × Parses bytes rows ts ps
  pub by_grammar : (ps : List Passage) → Parses bytes rows ts ps → (q : ℕ) × (length ts ≤ q) × grammar.Parses bytes ts m 0 q

abbrev pub RowsAreGrammars : Type 0
RowsAreGrammars = (bytes : List ℕ) (rows : List Row) (ts : List Token) (m : Matcher) → LaysOut rows 0 m (length rows) → IsParsedAlike bytes rows ts m

-- the matchers of rules that are read without a fault lay out grammars
abbrev pub MatchersAreGrammars : Type 0
MatchersAreGrammars =
    (home : Home) (bytes : List ℕ) (definition : List Token) → (rules_read home bytes definition).fault ≡ None
    → (i : ℕ) (r : RuleRows) → slice_get (rules_read home bytes definition).rules i ≡ Some r → (m : Matcher) × LaysOut r.matcher 0 m (length r.matcher)

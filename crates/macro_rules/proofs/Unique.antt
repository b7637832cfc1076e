-- An expansion is unique.
use Rattle.std.proofs.Common.{◌≡◌, ◌∙◌, ℕ, zero, suc, ◌+◌, Option, Some, None, List, [], ◌∷◌, length, slice_get, refl, ap, sym, subst, arith, cond}
use Rattle.macro_rules.proofs.Only.{walk_only}
use Rattle.macro_rules.proofs.Reached.{walk_parsed}
use Rattle.macro_rules.specs.Expanded.{Expanded}
use Rattle.macro_rules.specs.Expansions.{by_fault, by_outcome, hands_on, applied, expanded, written}
use Rattle.macro_rules.specs.Laws.{Writes, Expands, first, next, AreLaidOut, IsTheOnlyExpansion}
use Rattle.macro_rules.specs.RuleRows.{RuleRows}
use Rattle.macro_rules.specs.Runs.{Parses, IsParsed, IsOnly}
use Rattle.macro_rules.specs.Visits.{passages, all_noted, no_visits}
use Rattle.macro_rules.specs.Walks.{walk}
use Rattle.macro_rules.specs.Writings.{transcribed}
use Rattle.macro_rules.specs.declared.expand.ExpandFault.TheVariants as fault
use Rattle.macro_rules.specs.declared.expand.Limits.{Limits}
use Rattle.macro_rules.specs.declared.matching.Outcome.{Outcome}
use Rattle.macro_rules.specs.declared.matching.Outcome.TheVariants as outcome
use Rattle.macro_rules.specs.declared.matching.Thread.{Thread}
use Rattle.macro_rules.specs.declared.token.Token.{Token}
use Rattle.macro_rules.specs.declared.visits.Passage.{Passage}
use Rattle.macro_rules.specs.declared.writing.WriteFault.{WriteFault}

abbrev made : List Token → Expanded
made out = record { tokens = out; fault = None }

-- what was written is not handed on
stays : (o : Option WriteFault) (ts : List Token) (other : Expanded) → cond (hands_on (by_fault o ts).fault) other (by_fault o ts) ≡ by_fault o ts
stays None ts other = refl
stays (Some f) ts other = refl

-- and is no lack of a rule
written_well : (o : Option WriteFault) (ts : List Token) → (by_fault o ts).fault ≡ Some fault.NoRule → ⊥
written_well None ts h = cc
written_well (Some f) ts h = cc

module _ (bytes : List ℕ) (call : List Token) (limits : Limits) where
  -- one rule before others, by what its matcher made of the call
  by_rule : (r : RuleRows) (rules : List RuleRows) (out : List Token) (log : List Thread) (o : Outcome) → IsParsed bytes r.matcher call log o → ((ps : List Passage) → Parses bytes r.matcher call ps → IsOnly call ps log o)
      → (expanded bytes rules call limits ≡ made out → IsTheOnlyExpansion bytes rules call limits.steps out)
      → cond (hands_on (by_outcome r call limits log o).fault) (expanded bytes rules call limits) (by_outcome r call limits log o) ≡ made out → IsTheOnlyExpansion bytes (r ∷ rules) call limits.steps out
  unfolding written
  by_rule r rules out log (outcome.Matches last) parse only further is =
      let w = transcribed r.transcriber r.matcher (all_noted (passages log last (length call)) (no_visits (length r.matcher))) call limits.steps in
      let writes : Writes r call limits.steps (passages log last (length call)) out = sym (stays w.fault w.tokens (expanded bytes rules call limits)) ∙ is in
      record {
        is_one = first parse writes;
        is_only = λ other e. unique other e writes;
      }
    where
      unique : (other : List Token) → Expands bytes call limits.steps (r ∷ rules) other → Writes r call limits.steps (passages log last (length call)) out → other ≡ out
      unique other (first {ps = ps} found wrote) writes =
          let same : Writes r call limits.steps (passages log last (length call)) other = subst (λ (l : List Passage). Writes r call limits.steps l other) (only ps found) wrote in
          ap (λ (e : Expanded). e.tokens) (sym same ∙ writes)
      unique other (next none e) writes = absurd (none (passages log last (length call)) parse)
  by_rule r rules out log (outcome.Fails place) parse only further is =
      let rest = further is in
      record {
        is_one = next only rest.is_one;
        is_only = λ other e. unique other e rest;
      }
    where
      unique : (other : List Token) → Expands bytes call limits.steps (r ∷ rules) other → IsTheOnlyExpansion bytes rules call limits.steps out → other ≡ out
      unique other (first {ps = ps} found wrote) rest = absurd (only ps found)
      unique other (next none e) rest = rest.is_only other e
  by_rule r rules out log (outcome.Ambiguous place) parse only further is = let never : Some (fault.Ambiguous place) ≡ None = ap (λ (e : Expanded). e.fault) is in cc
  by_rule r rules out log (outcome.BadFragment place) parse only further is = let never : Some (fault.BadFragment place) ≡ None = ap (λ (e : Expanded). e.fault) is in cc
  by_rule r rules out log outcome.TooLong parse only further is = let never : Some fault.TooLong ≡ None = ap (λ (e : Expanded). e.fault) is in cc

  unique_of : (rules : List RuleRows) (out : List Token) → AreLaidOut rules → expanded bytes rules call limits ≡ made out → IsTheOnlyExpansion bytes rules call limits.steps out
  unfolding applied
  unique_of [] out laid is = let never : Some fault.NoRule ≡ None = ap (λ (e : Expanded). e.fault) is in cc
  unique_of (r ∷ rules) out laid is =
      let n = length r.matcher + length r.matcher + 2 in
      let w = walk bytes r.matcher call n limits.turns in
      by_rule r rules out w.log w.outcome (walk_parsed bytes r.matcher call n limits.turns) (walk_only bytes r.matcher call (laid 0 r refl) n (omega arith) limits.turns)
      (unique_of rules out (λ i s h. laid (suc i) s h)) is

  -- of a rule that is not there
  by_none : (r : RuleRows) (rules : List RuleRows) (log : List Thread) (o : Outcome) → ((ps : List Passage) → Parses bytes r.matcher call ps → IsOnly call ps log o)
      → ((expanded bytes rules call limits).fault ≡ Some fault.NoRule → (i : ℕ) (s : RuleRows) → slice_get rules i ≡ Some s → (ps : List Passage) → ¬ Parses bytes s.matcher call ps)
      → (cond (hands_on (by_outcome r call limits log o).fault) (expanded bytes rules call limits) (by_outcome r call limits log o)).fault ≡ Some fault.NoRule
      → (i : ℕ) (s : RuleRows) → slice_get (r ∷ rules) i ≡ Some s → (ps : List Passage) → ¬ Parses bytes s.matcher call ps
  unfolding written
  by_none r rules log (outcome.Matches last) only further is =
      let w = transcribed r.transcriber r.matcher (all_noted (passages log last (length call)) (no_visits (length r.matcher))) call limits.steps in
      absurd (written_well w.fault w.tokens (ap (λ (e : Expanded). e.fault) (sym (stays w.fault w.tokens (expanded bytes rules call limits))) ∙ is))
  by_none r rules log (outcome.Fails place) only further is = at
    where
      at : (i : ℕ) (s : RuleRows) → slice_get (r ∷ rules) i ≡ Some s → (ps : List Passage) → ¬ Parses bytes s.matcher call ps
      at zero s h ps = let same : r ≡ s = cc in subst (λ (t : RuleRows). ¬ Parses bytes t.matcher call ps) same (only ps)
      at (suc i) s h ps = further is i s h ps
  by_none r rules log (outcome.Ambiguous place) only further is = cc
  by_none r rules log (outcome.BadFragment place) only further is = cc
  by_none r rules log outcome.TooLong only further is = cc

  none_of : (rules : List RuleRows) → AreLaidOut rules → (expanded bytes rules call limits).fault ≡ Some fault.NoRule → (i : ℕ) (s : RuleRows) → slice_get rules i ≡ Some s → (ps : List Passage) → ¬ Parses bytes s.matcher call ps
  unfolding applied
  none_of [] laid is = λ i s h ps parse. cc
  none_of (r ∷ rules) laid is =
      let n = length r.matcher + length r.matcher + 2 in
      let w = walk bytes r.matcher call n limits.turns in
      by_none r rules w.log w.outcome (walk_only bytes r.matcher call (laid 0 r refl) n (omega arith) limits.turns) (none_of rules (λ i s h. laid (suc i) s h)) is

pub expansion_unique : (bytes : List ℕ) (rules : List RuleRows) (call : List Token) (limits : Limits) (out : List Token) → AreLaidOut rules → expanded bytes rules call limits ≡ made out → IsTheOnlyExpansion bytes rules call limits.steps out
expansion_unique bytes rules call limits out laid is = unique_of bytes call limits rules out laid is

pub no_rule_parses : (bytes : List ℕ) (rules : List RuleRows) (call : List Token) (limits : Limits) → AreLaidOut rules → (expanded bytes rules call limits).fault ≡ Some fault.NoRule → (i : ℕ) (s : RuleRows) → slice_get rules i ≡ Some s → (ps : List Passage) → ¬ Parses bytes s.matcher call ps
no_rule_parses bytes rules call limits laid is = none_of bytes call limits rules laid is

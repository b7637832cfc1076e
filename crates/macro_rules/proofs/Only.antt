-- Each parse is found: where a rule matches there is one, and where it fails there is none.
use Rattle.std.proofs.Common.{◌≡◌, ◌∙◌, ℕ, zero, suc, ◌+◌, ◌-◌, ◌<◌, ◌≤◌, ◌≢◌, Bool, true, false, Option, Some, None, List, [], ◌∷◌, ◌++◌, length, drop, get_or, slice_get, nat_eq, refl, ap, sym, subst, inl, inr, arith, cond, count_by, is_some}
use Rattle.std.specs.Prelude.{nat_lt, ◌&&◌}
use Rattle.std.proofs.lemmas.Bool.{cond_both, eqb-true, eq-eqb, ltb-true, ltb-false}
use Rattle.std.proofs.lemmas.List.Quantifiers.{position-Some}
use Rattle.std.proofs.lemmas.List.Sums.{fails_before_first}
use Rattle.std.specs.List.{position, position_or_len}
use Rattle.std.proofs.lemmas.Option.{slice_get_within, slice_get-get_or, slice_get_past, get_or_from_slice_get}
use Rattle.macro_rules.proofs.Bounds.{segment_within}
use Rattle.macro_rules.proofs.Linked.{Extends, extends_itself, extends_push, get_new, Crowded, crowded_stays, two_arrive, Segment, Way, Covers, closed_keeps, closed_covers}
use Rattle.macro_rules.proofs.Numbers.{get_drop, one_counted, two_counted}
use Rattle.macro_rules.proofs.Passed.{passages_last, passages_next}
use Rattle.macro_rules.proofs.Reached.{begins_well}
use Rattle.macro_rules.proofs.Seeded.{begun, taken_goes, read_goes}
use Rattle.macro_rules.specs.Layouts.{IsLaidOut}
use Rattle.macro_rules.specs.Runs.{took, Steps, goes_on, turns, takes, reads, Reaches, begins, steps, Parses, IsOnly}
use Rattle.macro_rules.specs.Threads as spec
use Rattle.macro_rules.specs.Threads.{thread_at, standing, closed, behind_token, taken, variable_len, behind_fragment, fragment_end, with_read, with_reader, ways_from, at_end, ends_by, first_standing, first_reading, count_reading, count_taking, reads_by, turn_of, turn_at}
use Rattle.macro_rules.specs.Visits.{passage, passages_of}
use Rattle.macro_rules.specs.Walks.{Walked, by_turn, reads_on, advanced_at, by_step, walked, walk}
use Rattle.macro_rules.specs.declared.matching.Outcome.{Outcome}
use Rattle.macro_rules.specs.declared.matching.Outcome.TheVariants as outcome
use Rattle.macro_rules.specs.declared.matching.Thread.{Thread}
use Rattle.macro_rules.specs.declared.matching.Turn.{Turn}
use Rattle.macro_rules.specs.declared.matching.Turn.TheVariants as turn
use Rattle.macro_rules.specs.declared.row.Row.{Row}
use Rattle.macro_rules.specs.declared.token.Token.{Token}
use Rattle.macro_rules.specs.declared.visits.Passage.{Passage}
use Rattle.macro_rules.specs.declared.walk.Step.{Step}

past_end : {X : Type 0} (xs : List X) (i : ℕ) → length xs ≤ i → slice_get xs i ≡ None
past_end xs i h = slice_get_past xs i h

-- one that passes is found
found : {X : Type 0} (p : X → Bool) (xs : List X) (i : ℕ) (x : X) → slice_get xs i ≡ Some x → p x ≡ true → position p xs ≢ None
found p xs i x there does none = by (nat_lt (position_or_len p xs) (length xs)) refl none
  where
    by : (b : Bool) → nat_lt (position_or_len p xs) (length xs) ≡ b → cond b (Some (position_or_len p xs)) None ≡ None → ⊥
    by true e h = cc
    by false e h =
        let low : i < position_or_len p xs = omega (arith, ltb-false (position_or_len p xs) (length xs) e, slice_get_within xs i x there) in
        let not_so : p (get_or xs i x) ≡ false = fails_before_first p xs i x low in
        let is : get_or xs i x ≡ x = get_or_from_slice_get xs i x x there in
        let never : true ≡ false = sym does ∙ ap p (sym is) ∙ not_so in
        cc

-- and is the only one, where not_so two pass
only_one : (p : Thread → Bool) (log : List Thread) (from k i : ℕ) (t : Thread) → count_by p (drop from log) ≤ 1 → from ≤ k → slice_get log k ≡ Some t → p t ≡ true → position p (drop from log) ≡ Some i → from + i ≡ k
only_one p log from k i t few low there does e =
    let at = k - from in
    let is : from + at ≡ k = omega (arith, low) in
    let own : slice_get (drop from log) at ≡ Some t = get_drop from log at ∙ ap (slice_get log) is ∙ there in
    let first = position-Some p (drop from log) i t e in
    let other : slice_get (drop from log) i ≡ Some (get_or (drop from log) i t) = slice_get-get_or (drop from log) i t first.0 in
    by at is own first.1 other (nat_lt i at) refl (nat_lt at i) refl
  where
    by : (at : ℕ) → from + at ≡ k → slice_get (drop from log) at ≡ Some t → p (get_or (drop from log) i t) ≡ true → slice_get (drop from log) i ≡ Some (get_or (drop from log) i t) → (a : Bool) → nat_lt i at ≡ a → (b : Bool) → nat_lt at i ≡ b → from + i ≡ k
    by at is own also other true f b g = absurd (omega (arith, few, two_counted p (drop from log) i at (get_or (drop from log) i t) t (ltb-true i at f) other own also does))
    by at is own also other false f true g = absurd (omega (arith, few, two_counted p (drop from log) at i t (get_or (drop from log) i t) (ltb-true at i g) own other does also))
    by at is own also other false f false g = omega (arith, is, ltb-false i at f, ltb-false at i g)

-- of those from a number on one passes, or two
one_from : (p : Thread → Bool) (log : List Thread) (from k : ℕ) (t : Thread) → from ≤ k → slice_get log k ≡ Some t → p t ≡ true → 1 ≤ count_by p (drop from log)
one_from p log from k t low there does =
    let is : from + (k - from) ≡ k = omega (arith, low) in
    one_counted p (drop from log) (k - from) t (get_drop from log (k - from) ∙ ap (slice_get log) is ∙ there) does

-- what the threads took that lead to one of them, the last first
pub data Trail (log : List Thread) : ℕ → List Passage → Type 0 where
  start : Trail log 0 []
  onward : {k : ℕ} {ps : List Passage} {t u : Thread} → k ≢ 0 → t.before < k → slice_get log k ≡ Some t → slice_get log t.before ≡ Some u → Trail log t.before ps → Trail log k (took u.row u.place t.place ∷ ps)

trail_stays : (log longer : List Thread) (k : ℕ) (ps : List Passage) → Extends log longer → Trail log k ps → Trail longer k ps
trail_stays log longer k ps more start = start
trail_stays log longer k ps more (onward {ps = before} {t} {u} past less there earlier trail) =
    onward past less (more.same k t there) (more.same t.before u earlier) (trail_stays log longer t.before before more trail)

trail_took : (log : List Thread) (k : ℕ) (ps : List Passage) → Trail log k ps → (n back : ℕ) (t : Thread) → k < n → slice_get log k ≡ Some t → passages_of log n k back ≡ took t.row t.place back ∷ ps
trail_took log k ps start n back t less there = passages_last log n 0 back t (λ e. absurd (omega (arith, e, less))) refl (sym there)
trail_took log k ps (onward {ps = before} {t = v} {u} past less own earlier trail) n back t within there =
    let both : Some v ≡ Some t = sym own ∙ there in
    let is : v ≡ t = cc in
    subst (λ (w : Thread). passages_of log n k back ≡ took w.row w.place back ∷ took u.row u.place v.place ∷ before) is
    (passages_next log n k back v (λ e. absurd (omega (arith, e, within))) past (sym own) ∙ ap (λ (l : List Passage). passage v back ∷ l) (trail_took log v.before before trail (n - 1) v.place u (omega (arith, less, within)) earlier))

-- it is ambiguous, or cannot be read, or takes too long
abbrev pub IsOpen : Outcome → Type 0
IsOpen (outcome.Matches last) = ⊥
IsOpen (outcome.Fails place) = ⊥
IsOpen _ = Unit {0}

-- what so many that read and so many that take do, where one takes
takes_on : (P : Turn → Type 0) (readers takers : ℕ) (reader : Option ℕ) → 1 ≤ takers → P turn.Takes → P turn.Ambiguous → P (turn_of readers takers reader)
takes_on P readers takers reader some does not_so =
    cond_both (nat_eq readers 0) (cond (nat_eq takers 0) turn.Fails turn.Takes) (cond (nat_eq readers 1 && nat_eq takers 0) (reads_by reader) turn.Ambiguous) P
    (λ _. cond_both (nat_eq takers 0) turn.Fails turn.Takes P (λ e. absurd (omega (arith, some, eqb-true takers 0 e))) (λ _. does))
    (λ _. by (nat_eq readers 1) (nat_eq takers 0) refl)
  where
    by : (a b : Bool) → nat_eq takers 0 ≡ b → P (cond (a && b) (reads_by reader) turn.Ambiguous)
    by true true e = absurd (omega (arith, some, eqb-true takers 0 e))
    by true false e = not_so
    by false b e = not_so

-- and where one reads
reads_one : (P : Turn → Type 0) (readers takers : ℕ) (reader : Option ℕ) → 1 ≤ readers → (readers ≡ 1 → P (reads_by reader)) → P turn.Ambiguous → P (turn_of readers takers reader)
reads_one P readers takers reader some does not_so =
    cond_both (nat_eq readers 0) (cond (nat_eq takers 0) turn.Fails turn.Takes) (cond (nat_eq readers 1 && nat_eq takers 0) (reads_by reader) turn.Ambiguous) P
    (λ e. absurd (omega (arith, some, eqb-true readers 0 e)))
    (λ _. by (nat_eq readers 1) refl (nat_eq takers 0))
  where
    by : (a : Bool) → nat_eq readers 1 ≡ a → (b : Bool) → P (cond (a && b) (reads_by reader) turn.Ambiguous)
    by true e true = does (eqb-true readers 1 e)
    by true e false = not_so
    by false e b = not_so

module _ (bytes : List ℕ) (rows : List Row) (ts : List Token) where
  -- from a position at a place the whole input is parsed, where those before took something, and all took that
  pub data Leads : ℕ → ℕ → List Passage → List Passage → Type 0 where
    ends : {r p : ℕ} {ps qs : List Passage} → r ≡ length rows → length ts ≤ p → qs ≡ took r p (length ts) ∷ ps → Leads r p ps qs
    leads : {r p s q : ℕ} {ps qs : List Passage} → Steps bytes rows ts r p s q → Leads s q (took r p q ∷ ps) qs → Leads r p ps qs

  from_begin : (r p : ℕ) (ps qs : List Passage) → Reaches bytes rows ts r p ps → Leads r p ps qs → Leads 0 0 [] qs
  from_begin r p ps qs begins rest = rest
  from_begin r p ps qs (steps {r = s} {p = q} {ps = before} reached step) rest = from_begin s q before qs reached (leads step rest)

  pub parse_leads : (qs : List Passage) → Parses bytes rows ts qs → Leads 0 0 [] qs
  parse_leads qs parse = from_begin (length rows) parse.place parse.before qs parse.reached (ends refl parse.whole parse.are)

  -- threads at a place with all that is reached from them without a token
  pub record Ready (log : List Thread) (from place : ℕ) : Type 0 where
    pub segment : Segment bytes rows ts log from place
    pub covers : Covers bytes rows ts log from place (length log)

module _ (bytes : List ℕ) (rows : List Row) (ts : List Token) (laid : IsLaidOut rows) (closing : ℕ) (enough : length rows + length rows + 2 ≤ closing) where
  abbrev pub Behind : ℕ → Step → List Thread → Walked
  Behind n s l = by_step s l (walked bytes rows ts closing n)

  -- what comes of closed threads at a place where that token stands
  abbrev pub continued_at : ℕ → ℕ → ℕ → Option Token → List Thread → Walked
  continued_at n from place o log = Behind n (advanced_at bytes rows (drop place ts) from place o log).step (advanced_at bytes rows (drop place ts) from place o log).log

  abbrev pub continued : ℕ → ℕ → ℕ → List Thread → Walked
  continued n from place log = continued_at n from place (slice_get ts place) log

  abbrev pub turned : ℕ → ℕ → ℕ → Token → List Thread → Turn → Walked
  turned n from place x log u = Behind n (by_turn bytes rows (drop place ts) from place x u log).step (by_turn bytes rows (drop place ts) from place x u log).log

  abbrev pub Only : List Passage → Walked → Type 0
  Only qs w = IsOnly ts qs w.log w.outcome

  open_only : (qs : List Passage) (log : List Thread) (o : Outcome) → IsOpen o → IsOnly ts qs log o
  open_only qs log (outcome.Matches last) h = absurd h
  open_only qs log (outcome.Fails place) h = absurd h
  open_only qs log (outcome.Ambiguous place) h = tt
  open_only qs log (outcome.BadFragment place) h = tt
  open_only qs log outcome.TooLong h = tt

  -- where a parse leads on from a position: a thread there leads to its end, and two to not_so answer
  pub record Claim (r p : ℕ) (ps qs : List Passage) : Type 0 where
    pub single : (n from k : ℕ) (log : List Thread) (t : Thread) → Ready bytes rows ts log from p → from ≤ k → slice_get log k ≡ Some t → t.row ≡ r → Trail log k ps → Only qs (continued n from p log)
    pub crowd : (n from : ℕ) (log : List Thread) → Ready bytes rows ts log from p → Crowded log from r → IsOpen (continued n from p log).outcome

  ready : (log : List Thread) (from place : ℕ) → Segment bytes rows ts log from place → Ready bytes rows ts (closed rows from place closing from log) from place
  ready log from place segment = record {
    segment = (closed_keeps bytes rows ts from place closing from log segment (omega arith)).segment;
    covers = closed_covers bytes rows ts from place closing from (length rows + length rows + 2) log segment (omega arith) (λ i t low less h r way. absurd (omega (arith, low, less)))
        (λ l s. segment_within rows laid bytes ts from place l s) (omega (arith, enough));
  }

  resume_single : (s q : ℕ) (ps qs : List Passage) → Claim s q ps qs → (n from k : ℕ) (log : List Thread) (t : Thread) → Segment bytes rows ts log from q → from ≤ k → slice_get log k ≡ Some t → t.row ≡ s → Trail log k ps → Only qs (walked bytes rows ts closing n from q log)
  resume_single s q ps qs claim zero from k log t segment low there is trail = tt
  resume_single s q ps qs claim (suc n) from k log t segment low there is trail =
      let more = (closed_keeps bytes rows ts from q closing from log segment (omega arith)).extends in
      claim.single n from k (closed rows from q closing from log) t (ready log from q segment) low (more.same k t there) is (trail_stays log (closed rows from q closing from log) k ps more trail)

  resume_crowd : (s q : ℕ) (ps qs : List Passage) → Claim s q ps qs → (n from : ℕ) (log : List Thread) → Segment bytes rows ts log from q → Crowded log from s → IsOpen (walked bytes rows ts closing n from q log).outcome
  resume_crowd s q ps qs claim zero from log segment c = tt
  resume_crowd s q ps qs claim (suc n) from log segment c =
      let more = (closed_keeps bytes rows ts from q closing from log segment (omega arith)).extends in
      claim.crowd n from (closed rows from q closing from log) (ready log from q segment) (crowded_stays log (closed rows from q closing from log) from s more c)

  -- the trail of a thread behind another one
  trail_on : (log longer : List Thread) (k a s q r p : ℕ) (ps : List Passage) (t : Thread) → Extends log longer → k < a → slice_get longer a ≡ Some (thread_at s q k) → slice_get log k ≡ Some t → t.row ≡ r → t.place ≡ p → Trail log k ps → Trail longer a (took r p q ∷ ps)
  trail_on log longer k a s q r p ps t more less new there is at trail =
      subst (λ (x : ℕ). Trail longer a (took x p q ∷ ps)) is (subst (λ (y : ℕ). Trail longer a (took t.row y q ∷ ps)) at
      (onward (λ e. absurd (omega (arith, e, less))) less new (more.same k t there) (trail_stays log longer k ps more trail)))

  -- a step without a token
  pub idle_claim : (r p s : ℕ) (ps qs : List Passage) → ((t : Thread) → t.row ≡ r → Way bytes rows ts t s) → Claim s p (took r p p ∷ ps) qs → Claim r p ps qs
  idle_claim r p s ps qs way claim = record {
    single = λ n from k log t ready low there is trail.
        let at : t.place ≡ p = ready.segment.placed k t low there in
        elim (ready.covers k t low (slice_get_within log k t there) there s (way t is)) [
          | inl a ↦ claim.single n from a.0 log (thread_at s p k) ready a.1 a.3 refl (trail_on log log k a.0 s p r p ps t (extends_itself log) a.2 a.3 there is at trail)
          | inr b ↦ open_only qs (continued n from p log).log (continued n from p log).outcome (claim.crowd n from log ready b)
        ];
    crowd = λ n from log ready c.
        let i = from + c.first in
        let j = from + c.second in
        let at_i : slice_get log i ≡ Some c.one = sym (get_drop from log c.first) ∙ c.first_is in
        let at_j : slice_get log j ≡ Some c.other = sym (get_drop from log c.second) ∙ c.second_is in
        claim.crowd n from log ready (two_arrive log from s p i j (omega (arith, c.less))
        (ready.covers i c.one (omega arith) (slice_get_within log i c.one at_i) at_i s (way c.one (eqb-true c.one.row r c.first_passes)))
        (ready.covers j c.other (omega arith) (slice_get_within log j c.other at_j) at_j s (way c.other (eqb-true c.other.row r c.second_passes))));
  }

  some_way : (x : Token) (t : Thread) (r s : ℕ) → t.row ≡ r → behind_token bytes x (slice_get rows r) r ≡ Some s → behind_token bytes x (slice_get rows t.row) t.row ≡ Some s
  some_way x t r s is h = subst (λ (k : ℕ). behind_token bytes x (slice_get rows k) k ≡ Some s) (sym is) h

  -- a token
  taken_claim : (r p s : ℕ) (ps qs : List Passage) (x : Token) → slice_get ts p ≡ Some x → behind_token bytes x (slice_get rows r) r ≡ Some s → Claim s (p + 1) (took r p (p + 1) ∷ ps) qs → Claim r p ps qs
  unfolding turn_at by_turn
  taken_claim r p s ps qs x here h claim = record {
    single = λ n from k log t ready low there is trail.
        let goes = taken_goes bytes rows ts log from p (length log - from) from x log ready.segment here (omega arith) (omega (arith, ready.segment.low)) (extends_itself log) (begun bytes rows ts log from p (p + 1) ready.segment) in
        let longer = taken bytes rows x (length log) (p + 1) (length log - from) from log in
        let at : t.place ≡ p = ready.segment.placed k t low there in
        let way = some_way x t r s is h in
        let takers : 1 ≤ count_taking bytes rows x (drop from log) = one_from (λ (u : Thread). is_some (behind_token bytes x (slice_get rows u.row) u.row)) log from k t low there (ap is_some way) in
        let on : Only qs (walked bytes rows ts closing n (length log) (p + 1) longer) =
        elim (goes.covered k t low there s way) [
          | inl a ↦ resume_single s (p + 1) (took r p (p + 1) ∷ ps) qs claim n (length log) a.0 longer (thread_at s (p + 1) k) goes.segment a.1 a.3 refl (trail_on log longer k a.0 s (p + 1) r p ps t goes.extends a.2 a.3 there is at trail)
          | inr b ↦ open_only qs (walked bytes rows ts closing n (length log) (p + 1) longer).log (walked bytes rows ts closing n (length log) (p + 1) longer).outcome
              (resume_crowd s (p + 1) (took r p (p + 1) ∷ ps) qs claim n (length log) longer goes.segment b)
        ] in
        subst (λ (o : Option Token). Only qs (continued_at n from p o log)) (sym here)
        (takes_on (λ (u : Turn). Only qs (turned n from p x log u)) (count_reading rows (drop p ts) (drop from log)) (count_taking bytes rows x (drop from log)) (first_reading rows (drop p ts) (drop from log)) takers on tt);
    crowd = λ n from log ready c.
        let goes = taken_goes bytes rows ts log from p (length log - from) from x log ready.segment here (omega arith) (omega (arith, ready.segment.low)) (extends_itself log) (begun bytes rows ts log from p (p + 1) ready.segment) in
        let longer = taken bytes rows x (length log) (p + 1) (length log - from) from log in
        let i = from + c.first in
        let j = from + c.second in
        let at_i : slice_get log i ≡ Some c.one = sym (get_drop from log c.first) ∙ c.first_is in
        let at_j : slice_get log j ≡ Some c.other = sym (get_drop from log c.second) ∙ c.second_is in
        let way_i = some_way x c.one r s (eqb-true c.one.row r c.first_passes) h in
        let way_j = some_way x c.other r s (eqb-true c.other.row r c.second_passes) h in
        let takers : 1 ≤ count_taking bytes rows x (drop from log) = one_from (λ (u : Thread). is_some (behind_token bytes x (slice_get rows u.row) u.row)) log from i c.one (omega arith) at_i (ap is_some way_i) in
        let both = two_arrive longer (length log) s (p + 1) i j (omega (arith, c.less)) (goes.covered i c.one (omega arith) at_i s way_i) (goes.covered j c.other (omega arith) at_j s way_j) in
        let on : IsOpen (walked bytes rows ts closing n (length log) (p + 1) longer).outcome = resume_crowd s (p + 1) (took r p (p + 1) ∷ ps) qs claim n (length log) longer goes.segment both in
        subst (λ (o : Option Token). IsOpen (continued_at n from p o log).outcome) (sym here)
        (takes_on (λ (u : Turn). IsOpen (turned n from p x log u).outcome) (count_reading rows (drop p ts) (drop from log)) (count_taking bytes rows x (drop from log)) (first_reading rows (drop p ts) (drop from log)) takers on tt);
  }

  -- a fragment that one thread reads
  read_on : (r p n : ℕ) (ps qs : List Passage) (x : Token) → slice_get ts p ≡ Some x → spec.reads (slice_get rows r) (drop p ts) ≡ true → variable_len (slice_get rows r) (drop p ts) ≡ Some n → Claim (r + 1) (p + n) (took r p (p + n) ∷ ps) qs
      → (m from k : ℕ) (log : List Thread) (t : Thread) → Ready bytes rows ts log from p → from ≤ k → slice_get log k ≡ Some t → t.row ≡ r → Trail log k ps
      → Only qs (Behind m (reads_on (length log) p (fragment_end rows p (drop p ts) (slice_get log k))) (with_reader rows p (drop p ts) k (slice_get log k) log))
  read_on r p n ps qs x here may goes claim m from k log t ready low there is trail =
      let rest = drop p ts in
      let begins_t : spec.reads (slice_get rows t.row) rest ≡ true = ap (λ (a : ℕ). spec.reads (slice_get rows a) rest) is ∙ may in
      let goes_t : variable_len (slice_get rows t.row) rest ≡ Some n = ap (λ (a : ℕ). variable_len (slice_get rows a) rest) is ∙ goes in
      let new = thread_at (t.row + 1) (p + n) k in
      let at : t.place ≡ p = ready.segment.placed k t low there in
      let segment = read_goes bytes rows ts log from p k n t x ready.segment low there here begins_t goes_t in
      let within : k < length log = slice_get_within log k t there in
      let next : t.row + 1 ≡ r + 1 = ap (λ (a : ℕ). a + 1) is in
      let trailed : Trail (log ++ new ∷ []) (length log) (took r p (p + n) ∷ ps) = trail_on log (log ++ new ∷ []) k (length log) (t.row + 1) (p + n) r p ps t (extends_push log new) within (get_new log new) there is at trail in
      let on : Only qs (walked bytes rows ts closing m (length log) (p + n) (log ++ new ∷ [])) = resume_single (r + 1) (p + n) (took r p (p + n) ∷ ps) qs claim m (length log) (length log) (log ++ new ∷ []) new segment (omega arith) (get_new log new) next trailed in
      let by_len : Only qs (Behind m (reads_on (length log) p (behind_fragment p (variable_len (slice_get rows t.row) rest))) (with_read t.row k (behind_fragment p (variable_len (slice_get rows t.row) rest)) log)) =
      subst (λ (o : Option ℕ). Only qs (Behind m (reads_on (length log) p (behind_fragment p o)) (with_read t.row k (behind_fragment p o) log))) (sym goes_t) on in
      subst (λ (o : Option Thread). Only qs (Behind m (reads_on (length log) p (fragment_end rows p rest o)) (with_reader rows p rest k o log))) (sym there) by_len

  read_claim : (r p n : ℕ) (ps qs : List Passage) (x : Token) → slice_get ts p ≡ Some x → spec.reads (slice_get rows r) (drop p ts) ≡ true → variable_len (slice_get rows r) (drop p ts) ≡ Some n → Claim (r + 1) (p + n) (took r p (p + n) ∷ ps) qs → Claim r p ps qs
  unfolding turn_at by_turn
  read_claim r p n ps qs x here may goes claim = record {
    single = λ m from k log t ready low there is trail.
        let rest = drop p ts in
        let begins_t : spec.reads (slice_get rows t.row) rest ≡ true = ap (λ (a : ℕ). spec.reads (slice_get rows a) rest) is ∙ may in
        let test = (λ (u : Thread). spec.reads (slice_get rows u.row) rest) in
        let readers : 1 ≤ count_reading rows rest (drop from log) = one_from (λ (u : Thread). spec.reads (slice_get rows u.row) rest) log from k t low there begins_t in
        let on = read_on r p n ps qs x here may goes claim m from k log t ready low there is trail in
        subst (λ (o : Option Token). Only qs (continued_at m from p o log)) (sym here)
        (reads_one (λ (u : Turn). Only qs (turned m from p x log u)) (count_reading rows rest (drop from log)) (count_taking bytes rows x (drop from log)) (first_reading rows rest (drop from log)) readers
        (λ one. by_first r p n ps qs x m from k log t low there begins_t one on (first_reading rows rest (drop from log)) refl) tt);
    crowd = λ m from log ready c.
        let rest = drop p ts in
        let begins_i : spec.reads (slice_get rows c.one.row) rest ≡ true = ap (λ (a : ℕ). spec.reads (slice_get rows a) rest) (eqb-true c.one.row r c.first_passes) ∙ may in
        let begins_j : spec.reads (slice_get rows c.other.row) rest ≡ true = ap (λ (a : ℕ). spec.reads (slice_get rows a) rest) (eqb-true c.other.row r c.second_passes) ∙ may in
        let readers : 2 ≤ count_reading rows rest (drop from log) = two_counted (λ (u : Thread). spec.reads (slice_get rows u.row) rest) (drop from log) c.first c.second c.one c.other c.less c.first_is c.second_is begins_i begins_j in
        subst (λ (o : Option Token). IsOpen (continued_at m from p o log).outcome) (sym here)
        (reads_one (λ (u : Turn). IsOpen (turned m from p x log u).outcome) (count_reading rows rest (drop from log)) (count_taking bytes rows x (drop from log)) (first_reading rows rest (drop from log)) (omega (arith, readers))
        (λ one. absurd (omega (arith, readers, one))) tt);
  }
    where
      by_first : (r p n : ℕ) (ps qs : List Passage) (x : Token) (m from k : ℕ) (log : List Thread) (t : Thread) → from ≤ k → slice_get log k ≡ Some t → spec.reads (slice_get rows t.row) (drop p ts) ≡ true → count_reading rows (drop p ts) (drop from log) ≡ 1
          → Only qs (Behind m (reads_on (length log) p (fragment_end rows p (drop p ts) (slice_get log k))) (with_reader rows p (drop p ts) k (slice_get log k) log)) → (o : Option ℕ) → first_reading rows (drop p ts) (drop from log) ≡ o
          → Only qs (turned m from p x log (reads_by o))
      by_first r p n ps qs x m from k log t low there does one on None e =
          let is : from + (k - from) ≡ k = omega (arith, low) in
          absurd (found (λ (u : Thread). spec.reads (slice_get rows u.row) (drop p ts)) (drop from log) (k - from) t (get_drop from log (k - from) ∙ ap (slice_get log) is ∙ there) does e)
      by_first r p n ps qs x m from k log t low there does one on (Some i) e =
          let is : from + i ≡ k = only_one (λ (u : Thread). spec.reads (slice_get rows u.row) (drop p ts)) log from k i t (omega (arith, one)) low there does e in
          subst (λ (j : ℕ). Only qs (Behind m (reads_on (length log) p (fragment_end rows p (drop p ts) (slice_get log j))) (with_reader rows p (drop p ts) j (slice_get log j) log))) (sym is) on

  -- the end of the matcher, and of the input
  end_claim : (r p : ℕ) (ps qs : List Passage) → r ≡ length rows → length ts ≤ p → qs ≡ took r p (length ts) ∷ ps → Claim r p ps qs
  end_claim r p ps qs last past are = record {
    single = λ n from k log t ready low there is trail.
        let at : t.place ≡ p = ready.segment.placed k t low there in
        let at_last : nat_eq t.row (length rows) ≡ true = eq-eqb t.row (length rows) (is ∙ last) in
        let w : passages_of log (length log) k (length ts) ≡ took t.row t.place (length ts) ∷ ps = trail_took log k ps trail (length log) (length ts) t (slice_get_within log k t there) there in
        let same : took t.row t.place (length ts) ∷ ps ≡ took r p (length ts) ∷ ps = ap (λ (a : ℕ). took a t.place (length ts) ∷ ps) is ∙ ap (λ (b : ℕ). took r b (length ts) ∷ ps) at in
        subst (λ (o : Option Token). Only qs (continued_at n from p o log)) (sym (past_end ts p past))
        (cond_both (nat_lt 1 (standing (length rows) (drop from log))) (outcome.Ambiguous p) (ends_by from p (first_standing (length rows) (drop from log))) (IsOnly ts qs log) (λ _. tt)
        (λ few. by qs from k log t (omega (arith, ltb-false 1 (standing (length rows) (drop from log)) few)) low there at_last (are ∙ sym same ∙ sym w) (first_standing (length rows) (drop from log)) refl));
    crowd = λ n from log ready c.
        let two : 2 ≤ standing (length rows) (drop from log) = subst (λ (a : ℕ). 2 ≤ standing a (drop from log)) last (two_counted (λ (u : Thread). nat_eq u.row r) (drop from log) c.first c.second c.one c.other c.less c.first_is c.second_is c.first_passes c.second_passes) in
        subst (λ (o : Option Token). IsOpen (continued_at n from p o log).outcome) (sym (past_end ts p past))
        (cond_both (nat_lt 1 (standing (length rows) (drop from log))) (outcome.Ambiguous p) (ends_by from p (first_standing (length rows) (drop from log))) IsOpen (λ _. tt)
        (λ few. absurd (omega (arith, two, ltb-false 1 (standing (length rows) (drop from log)) few))));
  }
    where
      by : (qs : List Passage) (from k : ℕ) (log : List Thread) (t : Thread) → standing (length rows) (drop from log) ≤ 1 → from ≤ k → slice_get log k ≡ Some t → nat_eq t.row (length rows) ≡ true → qs ≡ passages_of log (length log) k (length ts)
          → (o : Option ℕ) → first_standing (length rows) (drop from log) ≡ o → IsOnly ts qs log (ends_by from p o)
      by qs from k log t few low there does w None e =
          let is : from + (k - from) ≡ k = omega (arith, low) in
          absurd (found (λ (u : Thread). nat_eq u.row (length rows)) (drop from log) (k - from) t (get_drop from log (k - from) ∙ ap (slice_get log) is ∙ there) does e)
      by qs from k log t few low there does w (Some i) e =
          let is : from + i ≡ k = only_one (λ (u : Thread). nat_eq u.row (length rows)) log from k i t few low there does e in
          w ∙ ap (λ (j : ℕ). passages_of log (length log) j (length ts)) (sym is)

  claims : (r p : ℕ) (ps qs : List Passage) → Leads bytes rows ts r p ps qs → Claim r p ps qs
  claims r p ps qs (ends last past are) = end_claim r p ps qs last past are
  claims r p ps qs (leads (goes_on {s = s} h) rest) =
      idle_claim r p s ps qs (λ t is. inl (ap (λ (k : ℕ). (ways_from (slice_get rows k) k).next) is ∙ h)) (claims s p (took r p p ∷ ps) qs rest)
  claims r p ps qs (leads (turns {s = s} h) rest) =
      idle_claim r p s ps qs (λ t is. inr (ap (λ (k : ℕ). (ways_from (slice_get rows k) k).other) is ∙ h)) (claims s p (took r p p ∷ ps) qs rest)
  claims r p ps qs (leads (takes {s = s} {x = x} here h) rest) = taken_claim r p s ps qs x here h (claims s (p + 1) (took r p (p + 1) ∷ ps) qs rest)
  claims r p ps qs (leads (reads {n = n} {x = x} here may goes) rest) = read_claim r p n ps qs x here may goes (claims (r + 1) (p + n) (took r p (p + n) ∷ ps) qs rest)

  -- each parse is the one that was found, and where a rule fails there is none
  pub walk_only : (limit : ℕ) (qs : List Passage) → Parses bytes rows ts qs → IsOnly ts qs (walk bytes rows ts closing limit).log (walk bytes rows ts closing limit).outcome
  walk_only limit qs parse =
      resume_single 0 0 [] qs (claims 0 0 [] qs (parse_leads bytes rows ts qs parse)) limit 0 0 (thread_at 0 0 0 ∷ []) (thread_at 0 0 0) (begins_well bytes rows ts) (omega arith) refl refl start

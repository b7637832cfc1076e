-- What matches is parsed: what the threads took that lead to the last one is a parse.
use Rattle.std.proofs.Common.{◌≡◌, ◌∙◌, ℕ, zero, suc, ◌+◌, ◌-◌, ◌<◌, ◌≤◌, Bool, true, Option, Some, None, List, [], ◌∷◌, length, drop, get_or, slice_get, nat_eq, refl, ap, sym, subst, arith, cond}
use Rattle.std.specs.Prelude.{nat_lt, ◌&&◌}
use Rattle.std.proofs.lemmas.Bool.{cond_both, eqb-true}
use Rattle.std.proofs.lemmas.List.Quantifiers.{position-Some}
use Rattle.std.proofs.lemmas.List.Sums.{count_by-le-length}
use Rattle.std.proofs.lemmas.Option.{slice_get_within, slice_get-get_or}
use Rattle.macro_rules.proofs.Linked.{extends_itself, Link, first, behind, Segment, closed_keeps}
use Rattle.macro_rules.proofs.Numbers.{get_drop}
use Rattle.macro_rules.proofs.Passed.{passages_last, passages_next}
use Rattle.macro_rules.proofs.Seeded.{begun, taken_goes, read_goes}
use Rattle.macro_rules.specs.Runs.{took, Reaches, begins, steps, IsParsed}
use Rattle.macro_rules.specs.Threads as spec
use Rattle.macro_rules.specs.Threads.{thread_at, standing, closed, taken, variable_len, behind_fragment, fragment_end, with_read, with_reader, at_end, ends_by, first_standing, first_reading, count_reading, count_taking, reads_by, turn_at}
use Rattle.macro_rules.specs.Visits.{passage, passages_of}
use Rattle.macro_rules.specs.Walks.{by_turn, reads_on, advanced_at, advanced, by_step, walked, walk}
use Rattle.macro_rules.specs.declared.matching.Thread.{Thread}
use Rattle.macro_rules.specs.declared.matching.Turn.{Turn}
use Rattle.macro_rules.specs.declared.matching.Turn.TheVariants as turn
use Rattle.macro_rules.specs.declared.matching.Outcome.TheVariants as outcome
use Rattle.macro_rules.specs.declared.row.Row.{Row}
use Rattle.macro_rules.specs.declared.token.Token.{Token}
use Rattle.macro_rules.specs.declared.visits.Passage.{Passage}
use Rattle.macro_rules.specs.declared.walk.Step.{Step}
use Rattle.macro_rules.specs.declared.walk.Step.TheVariants.{Ends, GoesOn}

past_end : {X : Type 0} (xs : List X) (i : ℕ) → slice_get xs i ≡ None → length xs ≤ i
past_end [] i h = omega arith
past_end (x ∷ xs) zero h = cc
past_end (x ∷ xs) (suc i) h = omega (arith, past_end xs i h)

module _ (bytes : List ℕ) (rows : List Row) (ts : List Token) where
  -- what the threads took that lead to one of them
  pub record Way (log : List Thread) (n at behind : ℕ) (t : Thread) : Type 0 where
    pub before : List Passage
    pub reached : Reaches bytes rows ts t.row t.place before
    pub are : passages_of log n at behind ≡ took t.row t.place behind ∷ before

  way_to : (log : List Thread) → ((i : ℕ) (t : Thread) → slice_get log i ≡ Some t → Link bytes rows ts log i t) → (n at behind : ℕ) (t : Thread) → at < n → slice_get log at ≡ Some t → Way log n at behind t
  way_to log linked zero at back t within there = absurd (omega (arith, within))
  way_to log linked (suc n) at back t within there = by (linked at t there) (λ k u less h. way_to log linked n k t.place u (omega (arith, within, less)) h)
    where
      by : Link bytes rows ts log at t → ((k : ℕ) (u : Thread) → k < at → slice_get log k ≡ Some u → Way log n k t.place u) → Way log (suc n) at back t
      by (first zeroth is) further = record {
        before = [];
        reached = subst (λ (u : Thread). Reaches bytes rows ts u.row u.place []) (sym is) begins;
        are = passages_last log (suc n) at back t (λ e. absurd (omega (arith, e))) zeroth (sym there);
      }
      by (behind {u} past less earlier step) further =
          let w = further t.before u less earlier in
          let back_one : suc n - 1 ≡ n = omega arith in
          record {
            before = took u.row u.place t.place ∷ w.before;
            reached = steps w.reached step;
            are = passages_next log (suc n) at back t (λ e. absurd (omega (arith, e))) past (sym there) ∙ ap (λ (k : ℕ). passage t back ∷ passages_of log k t.before t.place) back_one ∙ ap (λ (ps : List Passage). passage t back ∷ ps) w.are;
          }

  -- what a step leaves: threads that stand where the next one goes on, or an end that is right
  abbrev pub Good : Step → List Thread → Type 0
  Good (Ends o) log = IsParsed bytes rows ts log o
  Good (GoesOn from place) log = Segment bytes rows ts log from place

  end_good : (from place : ℕ) (log : List Thread) → Segment bytes rows ts log from place → slice_get ts place ≡ None → IsParsed bytes rows ts log (at_end (length rows) from place (drop from log))
  end_good from place log segment past =
      cond_both (nat_lt 1 (standing (length rows) (drop from log))) (outcome.Ambiguous place) (ends_by from place (first_standing (length rows) (drop from log))) (IsParsed bytes rows ts log) (λ _. tt)
      (λ _. by (first_standing (length rows) (drop from log)) refl)
    where
      by : (o : Option ℕ) → first_standing (length rows) (drop from log) ≡ o → IsParsed bytes rows ts log (ends_by from place o)
      by None e = tt
      by (Some i) e =
          let d : Thread = thread_at 0 0 0 in
          let found = position-Some (λ (t : Thread). nat_eq t.row (length rows)) (drop from log) i d e in
          let t = get_or (drop from log) i d in
          let own : slice_get log (from + i) ≡ Some t = sym (get_drop from log i) ∙ slice_get-get_or (drop from log) i d found.0 in
          let within : from + i < length log = slice_get_within log (from + i) t own in
          let w = way_to log segment.linked (length log) (from + i) (length ts) t within own in
          let at_last : t.row ≡ length rows = eqb-true t.row (length rows) found.1 in
          let is : t.place ≡ place = segment.placed (from + i) t (omega arith) own in
          record {
            place = t.place;
            before = w.before;
            reached = subst (λ (r : ℕ). Reaches bytes rows ts r t.place w.before) at_last w.reached;
            whole = omega (arith, past_end ts place past, is);
            are = w.are ∙ ap (λ (r : ℕ). took r t.place (length ts) ∷ w.before) at_last;
          }

  -- a thread that reads stands at a variable that may begin there
  abbrev pub Fits : List Token → List Thread → Turn → Type 0
  Fits rest threads (turn.Reads i) = (t : Thread) × (slice_get threads i ≡ Some t) × (spec.reads (slice_get rows t.row) rest ≡ true)
  Fits rest threads _ = Unit {0}

  pub turn_fits : (rest : List Token) (threads : List Thread) (x : Token) → Fits rest threads (turn_at bytes rows rest threads x)
  unfolding turn_at
  turn_fits rest threads x =
      cond_both (nat_eq (count_reading rows rest threads) 0) (cond (nat_eq (count_taking bytes rows x threads) 0) turn.Fails turn.Takes) (cond (nat_eq (count_reading rows rest threads) 1 && nat_eq (count_taking bytes rows x threads) 0) (reads_by (first_reading rows rest threads)) turn.Ambiguous) (Fits rest threads)
      (λ _. cond_both (nat_eq (count_taking bytes rows x threads) 0) turn.Fails turn.Takes (Fits rest threads) (λ _. tt) (λ _. tt))
      (λ _. cond_both (nat_eq (count_reading rows rest threads) 1 && nat_eq (count_taking bytes rows x threads) 0) (reads_by (first_reading rows rest threads)) turn.Ambiguous (Fits rest threads) (λ _. by (first_reading rows rest threads) refl) (λ _. tt))
    where
      by : (o : Option ℕ) → first_reading rows rest threads ≡ o → Fits rest threads (reads_by o)
      by None e = tt
      by (Some i) e =
          let d : Thread = thread_at 0 0 0 in
          let found = position-Some (λ (t : Thread). spec.reads (slice_get rows t.row) rest) threads i d e in
          (get_or threads i d, slice_get-get_or threads i d found.0, found.1)

  read_good : (from place reader : ℕ) (t : Thread) (x : Token) (log : List Thread) → Segment bytes rows ts log from place → from ≤ reader → slice_get log reader ≡ Some t → slice_get ts place ≡ Some x → spec.reads (slice_get rows t.row) (drop place ts) ≡ true
      → (o : Option Thread) → slice_get log reader ≡ o → Good (reads_on (length log) place (fragment_end rows place (drop place ts) o)) (with_reader rows place (drop place ts) reader o log)
  read_good from place reader t x log segment low own here may None e = let never : Some t ≡ None = sym own ∙ e in cc
  read_good from place reader t x log segment low own here may (Some u) e = by (variable_len (slice_get rows u.row) (drop place ts)) refl
    where
      by : (o : Option ℕ) → variable_len (slice_get rows u.row) (drop place ts) ≡ o → Good (reads_on (length log) place (behind_fragment place o)) (with_read u.row reader (behind_fragment place o) log)
      by None f = tt
      by (Some n) f =
          let both : Some t ≡ Some u = sym own ∙ e in
          let same : t ≡ u = cc in
          read_goes bytes rows ts log from place reader n u x segment low e here (ap (λ (v : Thread). spec.reads (slice_get rows v.row) (drop place ts)) (sym same) ∙ may) f

  turn_good : (from place : ℕ) (x : Token) (u : Turn) (log : List Thread) → Segment bytes rows ts log from place → slice_get ts place ≡ Some x → Fits (drop place ts) (drop from log) u
      → Good (by_turn bytes rows (drop place ts) from place x u log).step (by_turn bytes rows (drop place ts) from place x u log).log
  unfolding by_turn
  turn_good from place x turn.Fails log segment here fits = tt
  turn_good from place x turn.Ambiguous log segment here fits = tt
  turn_good from place x turn.Takes log segment here fits =
      (taken_goes bytes rows ts log from place (length log - from) from x log segment here (omega arith) (omega (arith, segment.low)) (extends_itself log) (begun bytes rows ts log from place (place + 1) segment)).segment
  turn_good from place x (turn.Reads i) log segment here fits =
      read_good from place (from + i) fits.0 x log segment (omega arith) (sym (get_drop from log i) ∙ fits.1) here fits.2 (slice_get log (from + i)) refl

  advanced_good : (from place : ℕ) (o : Option Token) (log : List Thread) → Segment bytes rows ts log from place → slice_get ts place ≡ o
      → Good (advanced_at bytes rows (drop place ts) from place o log).step (advanced_at bytes rows (drop place ts) from place o log).log
  advanced_good from place None log segment past = end_good from place log segment past
  advanced_good from place (Some x) log segment here =
      turn_good from place x (turn_at bytes rows (drop place ts) (drop from log) x) log segment here (turn_fits (drop place ts) (drop from log) x)

  walked_parsed : (closing n from place : ℕ) (log : List Thread) → Segment bytes rows ts log from place → IsParsed bytes rows ts (walked bytes rows ts closing n from place log).log (walked bytes rows ts closing n from place log).outcome
  walked_parsed closing zero from place log segment = tt
  walked_parsed closing (suc n) from place log segment =
      let mid = closed rows from place closing from log in
      let good = advanced_good from place (slice_get ts place) mid (closed_keeps bytes rows ts from place closing from log segment (omega arith)).segment refl in
      by (advanced bytes rows ts from place mid).step (advanced bytes rows ts from place mid).log (walked_parsed closing n) good
    where
      by : (s : Step) (l : List Thread) → ((f p : ℕ) (k : List Thread) → Segment bytes rows ts k f p → IsParsed bytes rows ts (walked bytes rows ts closing n f p k).log (walked bytes rows ts closing n f p k).outcome) → Good s l
          → IsParsed bytes rows ts (by_step s l (walked bytes rows ts closing n)).log (by_step s l (walked bytes rows ts closing n)).outcome
      by (Ends o) l further good = good
      by (GoesOn f p) l further good = further f p l good

  pub begins_well : Segment bytes rows ts (thread_at 0 0 0 ∷ []) 0 0
  begins_well = record {
    low = omega arith;
    linked = λ i t h. by_link i t h;
    placed = λ i t low h. by_place i t h;
    few = λ r. by_count r (nat_eq 0 r) refl;
  }
    where
      by_link : (i : ℕ) (t : Thread) → slice_get (thread_at 0 0 0 ∷ []) i ≡ Some t → Link bytes rows ts (thread_at 0 0 0 ∷ []) i t
      by_link zero t h = let is : thread_at 0 0 0 ≡ t = cc in first refl (sym is)
      by_link (suc i) t h = cc

      by_place : (i : ℕ) (t : Thread) → slice_get (thread_at 0 0 0 ∷ []) i ≡ Some t → t.place ≡ 0
      by_place zero t h = let is : thread_at 0 0 0 ≡ t = cc in ap (λ (u : Thread). u.place) (sym is)
      by_place (suc i) t h = cc

      by_count : (r : ℕ) (b : Bool) → nat_eq 0 r ≡ b → standing r (thread_at 0 0 0 ∷ []) ≤ 2
      by_count r b e = omega (arith, count_by-le-length (λ (t : Thread). nat_eq t.row r) (thread_at 0 0 0 ∷ []))

  -- what matches is parsed
  pub walk_parsed : (closing limit : ℕ) → IsParsed bytes rows ts (walk bytes rows ts closing limit).log (walk bytes rows ts closing limit).outcome
  walk_parsed closing limit = walked_parsed closing limit 0 0 (thread_at 0 0 0 ∷ []) begins_well

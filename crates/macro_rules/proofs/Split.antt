-- A parse of rows that lay out a matcher is one of the matcher, as a grammar.
use Rattle.std.proofs.Common.{◌≡◌, ◌∙◌, ℕ, zero, suc, ◌+◌, ◌<◌, ◌≤◌, Bool, true, false, Option, Some, None, List, length, drop, slice_get, refl, ap, sym, subst, inl, inr, arith, cond}
use Rattle.std.specs.Prelude.{◌⊎◌}
use Rattle.std.proofs.lemmas.Option.{slice_get_within, slice_get_past}
use Rattle.macro_rules.proofs.Grammars.{Stand, whole, inside}
use Rattle.macro_rules.specs.Beginnings.{begins}
use Rattle.macro_rules.specs.Fragments.{fragment_len}
use Rattle.macro_rules.specs.Grammar.{Operator, Matcher, empty, token, variable, repetition, once_more, at_end, by_token, by_variable, left_out, last, again, separated, EndsAs, once, joined, parted, LaysOut, no_rows, token_row, variable_row, repetition_rows}
use Rattle.macro_rules.specs.Grammar as grammar
use Rattle.macro_rules.specs.Runs.{took, Steps, goes_on, turns, takes, reads, Reaches, steps}
use Rattle.macro_rules.specs.Runs as run
use Rattle.macro_rules.specs.Threads as thread
use Rattle.macro_rules.specs.Threads.{ways_from, behind_token, variable_len}
use Rattle.macro_rules.specs.Tokens.{same}
use Rattle.macro_rules.specs.declared.row.Row.{Row}
use Rattle.macro_rules.specs.declared.row.Row.TheVariants as row
use Rattle.macro_rules.specs.declared.token.FragmentKind.{FragmentKind}
use Rattle.macro_rules.specs.declared.token.Token.{Token}
use Rattle.macro_rules.specs.declared.visits.Passage.{Passage}

if_same : (b : Bool) (k s : ℕ) → cond b (Some k) None ≡ Some s → (b ≡ true) × (s ≡ k)
if_same true k s h = let e : k ≡ s = cc in (refl, sym e)
if_same false k s h = cc

module _ (bytes : List ℕ) (ts : List Token) where
  -- where a step leads from a position
  abbrev Target : Row → ℕ → ℕ → ℕ → ℕ → Type 0
  Target (row.Token t) r p s q = (x : Token) × (slice_get ts p ≡ Some x) × (same bytes t x ≡ true) × (s ≡ r + 1) × (q ≡ p + 1)
  Target (row.Variable v) r p s q = (x : Token) × (n : ℕ) × (slice_get ts p ≡ Some x) × (begins v.kind (drop p ts) ≡ true) × (fragment_len v.kind (drop p ts) ≡ Some n) × (s ≡ r + 1) × (q ≡ p + n)
  Target (row.Capture c) r p s q = ⊥
  Target (row.Begin b) r p s q = (q ≡ p) × ((s ≡ r + 1) ⊎ (b.behind ≡ Some s))
  Target row.Iteration r p s q = (q ≡ p) × (s ≡ r + 1)
  Target (row.End other) r p s q = (q ≡ p) × ((s ≡ r + 1) ⊎ (other ≡ Some s))
  Target (row.Separator t start) r p s q = (x : Token) × (slice_get ts p ≡ Some x) × (same bytes t x ≡ true) × (s ≡ start) × (q ≡ p + 1)

  next_target : (x : Row) (r p s : ℕ) → (ways_from (Some x) r).next ≡ Some s → Target x r p s p
  next_target (row.Token t) r p s h = cc
  next_target (row.Variable v) r p s h = cc
  next_target (row.Capture c) r p s h = cc
  next_target (row.Begin b) r p s h = let e : r + 1 ≡ s = cc in (refl, inl (sym e))
  next_target row.Iteration r p s h = let e : r + 1 ≡ s = cc in (refl, sym e)
  next_target (row.End other) r p s h = let e : r + 1 ≡ s = cc in (refl, inl (sym e))
  next_target (row.Separator t start) r p s h = cc

  other_target : (x : Row) (r p s : ℕ) → (ways_from (Some x) r).other ≡ Some s → Target x r p s p
  other_target (row.Token t) r p s h = cc
  other_target (row.Variable v) r p s h = cc
  other_target (row.Capture c) r p s h = cc
  other_target (row.Begin b) r p s h = (refl, inr h)
  other_target row.Iteration r p s h = cc
  other_target (row.End other) r p s h = (refl, inr h)
  other_target (row.Separator t start) r p s h = cc

  token_target : (x : Row) (r p s : ℕ) (t : Token) → slice_get ts p ≡ Some t → behind_token bytes t (Some x) r ≡ Some s → Target x r p s (p + 1)
  token_target (row.Token own) r p s t here h = let e = if_same (same bytes own t) (r + 1) s h in (t, here, e.0, e.1, refl)
  token_target (row.Variable v) r p s t here h = cc
  token_target (row.Capture c) r p s t here h = cc
  token_target (row.Begin b) r p s t here h = cc
  token_target row.Iteration r p s t here h = cc
  token_target (row.End other) r p s t here h = cc
  token_target (row.Separator own start) r p s t here h = let e = if_same (same bytes own t) start s h in (t, here, e.0, e.1, refl)

  read_target : (x : Row) (r p n : ℕ) (t : Token) → slice_get ts p ≡ Some t → thread.reads (Some x) (drop p ts) ≡ true → variable_len (Some x) (drop p ts) ≡ Some n → Target x r p (r + 1) (p + n)
  read_target (row.Token own) r p n t here may h = cc
  read_target (row.Variable v) r p n t here may h = (t, n, here, may, h, refl, refl)
  read_target (row.Capture c) r p n t here may h = cc
  read_target (row.Begin b) r p n t here may h = cc
  read_target row.Iteration r p n t here may h = cc
  read_target (row.End other) r p n t here may h = cc
  read_target (row.Separator own start) r p n t here may h = cc

module _ (bytes : List ℕ) (rows : List Row) (ts : List Token) where
  target : (x : Row) (r p s q : ℕ) → slice_get rows r ≡ Some x → Steps bytes rows ts r p s q → Target bytes ts x r p s q
  target x r p s q at (goes_on h) = next_target bytes ts x r p s (ap (λ (o : Option Row). (ways_from o r).next) (sym at) ∙ h)
  target x r p s q at (turns h) = other_target bytes ts x r p s (ap (λ (o : Option Row). (ways_from o r).other) (sym at) ∙ h)
  target x r p s q at (takes {x = t} here h) = token_target bytes ts x r p s t here (ap (λ (o : Option Row). behind_token bytes t o r) (sym at) ∙ h)
  target x r p s q at (reads {n = n} {x = t} here may h) =
      read_target bytes ts x r p n t here (ap (λ (o : Option Row). thread.reads o (drop p ts)) (sym at) ∙ may) (ap (λ (o : Option Row). variable_len o (drop p ts)) (sym at) ∙ h)

  -- the end is reached in so many steps
  data Goes : ℕ → ℕ → ℕ → Type 0 where
    done : {r p : ℕ} → r ≡ length rows → length ts ≤ p → Goes 0 r p
    more : {n r p s q : ℕ} → Steps bytes rows ts r p s q → Goes n s q → Goes (suc n) r p

  -- the first of so many steps at a position that is there
  record First (x : Row) (n r p : ℕ) : Type 0 where
    count : ℕ
    to : ℕ
    place : ℕ
    less : count < n
    leads : Target bytes ts x r p to place
    rest : Goes count to place

  first_step : (x : Row) (n r p : ℕ) → slice_get rows r ≡ Some x → Goes n r p → First x n r p
  first_step x n r p at (done is past) = absurd (omega (arith, is, slice_get_within rows r x at))
  first_step x n r p at (more {n = k} {s = s} {q = q} step rest) = record { count = k; to = s; place = q; less = omega arith; leads = target x r p s q at step; rest = rest }

  -- a part of the way parses a matcher, and the rest is no longer
  record Split (m : Matcher) (s p n : ℕ) : Type 0 where
    place : ℕ
    count : ℕ
    less : count ≤ n
    parsed : grammar.Parses bytes ts m p place
    rest : Goes count s place

  goes_from : (n r p r2 p2 : ℕ) → r ≡ r2 → p ≡ p2 → Goes n r p → Goes n r2 p2
  goes_from n r p r2 p2 e f g = subst (λ (k : ℕ). Goes n k p2) e (subst (λ (k : ℕ). Goes n r k) f g)

  longer : (m : Matcher) (s p k n : ℕ) → k ≤ n → Split m s p k → Split m s p n
  longer m s p k n low x = record { place = x.place; count = x.count; less = omega (arith, low, x.less); parsed = x.parsed; rest = x.rest }

  -- behind the body of a repetition: it ends, or comes once more
  at_ending : (n k most r e b s p a : ℕ) (body m : Matcher) (separator : Option Token) (op own : Operator) → EndsAs rows r e separator own b → own.repeats ≡ op.repeats → grammar.Parses bytes ts body p a → Goes k e a → k ≤ n → n ≤ most
      → ((k a : ℕ) → Goes k b a → k ≤ most → Split m s a k) → ((k a : ℕ) → Goes k (r + 1) a → k < most → Split (repetition body separator (once_more op) m) s a k) → Split (repetition body separator op m) s p n
  at_ending n k most r e b s p a body m separator op own (once not_again at) repeats one g low high by_rest by_more =
      let f = first_step (row.End None) k e a at g in
      elim f.leads.1 [
        | inl to ↦
            let x = by_rest f.count a (goes_from f.count f.to f.place (e + 1) a to f.leads.0 f.rest) (omega (arith, low, high, f.less)) in
            record { place = x.place; count = x.count; less = omega (arith, low, f.less, x.less); parsed = last one x.parsed; rest = x.rest }
        | inr never ↦ cc
      ]
  at_ending n k most r e b s p a body m separator op own (joined does at) repeats one g low high by_rest by_more =
      let f = first_step (row.End (Some (r + 1))) k e a at g in
      elim f.leads.1 [
        | inl to ↦
            let x = by_rest f.count a (goes_from f.count f.to f.place (e + 1) a to f.leads.0 f.rest) (omega (arith, low, high, f.less)) in
            record { place = x.place; count = x.count; less = omega (arith, low, f.less, x.less); parsed = last one x.parsed; rest = x.rest }
        | inr back ↦
            let to : r + 1 ≡ f.to = cc in
            let x = by_more f.count a (goes_from f.count f.to f.place (r + 1) a (sym to) f.leads.0 f.rest) (omega (arith, low, high, f.less)) in
            record { place = x.place; count = x.count; less = omega (arith, low, f.less, x.less); parsed = again (sym repeats ∙ does) one x.parsed; rest = x.rest }
      ]
  at_ending n k most r e b s p a body m separator op own (parted {t = t} at mark) repeats one g low high by_rest by_more =
      let f = first_step (row.End (Some (e + 2))) k e a at g in
      elim f.leads.1 [
        | inl to ↦
            let h = first_step (row.Separator t (r + 1)) f.count (e + 1) a mark (goes_from f.count f.to f.place (e + 1) a to f.leads.0 f.rest) in
            let x = by_more h.count (a + 1) (goes_from h.count h.to h.place (r + 1) (a + 1) h.leads.3 h.leads.4 h.rest) (omega (arith, low, high, f.less, h.less)) in
            record { place = x.place; count = x.count; less = omega (arith, low, f.less, h.less, x.less); parsed = separated {q = x.place} one h.leads.1 h.leads.2 x.parsed; rest = x.rest }
        | inr past ↦
            let to : e + 2 ≡ f.to = cc in
            let x = by_rest f.count a (goes_from f.count f.to f.place (e + 2) a (sym to) f.leads.0 f.rest) (omega (arith, low, high, f.less)) in
            record { place = x.place; count = x.count; less = omega (arith, low, f.less, x.less); parsed = last one x.parsed; rest = x.rest }
      ]

  -- an iteration, with what its body and what is behind parse by themselves
  iterate : (n most r e b s p : ℕ) (body m : Matcher) (separator : Option Token) (op own : Operator) → own.repeats ≡ op.repeats → slice_get rows (r + 1) ≡ Some row.Iteration → EndsAs rows r e separator own b → Goes n (r + 1) p → n ≤ most
      → ((k a : ℕ) → Goes k (r + 2) a → k ≤ most → Split body e a k) → ((k a : ℕ) → Goes k b a → k ≤ most → Split m s a k)
      → ((k a : ℕ) → Goes k (r + 1) a → k < most → Split (repetition body separator (once_more op) m) s a k) → Split (repetition body separator op m) s p n
  iterate n most r e b s p body m separator op own repeats iteration ends g low by_body by_rest by_more =
      let two : r + 1 + 1 ≡ r + 2 = omega arith in
      let f = first_step row.Iteration n (r + 1) p iteration g in
      let x = by_body f.count p (goes_from f.count f.to f.place (r + 2) p (f.leads.1 ∙ two) f.leads.0 f.rest) (omega (arith, low, f.less)) in
      at_ending n x.count most r e b s p x.place body m separator op own ends repeats x.parsed x.rest (omega (arith, f.less, x.less)) low by_rest by_more

  abbrev Further : ℕ → Type 0
  Further most = (m : Matcher) (c s p n : ℕ) → Stand bytes rows ts c m s → Goes n c p → n < most → Split m s p n

  items : (most : ℕ) → Further most → (m : Matcher) (c s p n : ℕ) → Stand bytes rows ts c m s → Goes n c p → n ≤ most → Split m s p n
  items most further empty c s p n (whole no_rows) g low = record { place = p; count = n; less = omega arith; parsed = at_end; rest = g }
  items most further (token t m) c s p n (whole (token_row at next)) g low =
      let f = first_step (row.Token t) n c p at g in
      let x = items most further m (c + 1) s (p + 1) f.count (whole next) (goes_from f.count f.to f.place (c + 1) (p + 1) f.leads.3 f.leads.4 f.rest) (omega (arith, low, f.less)) in
      record { place = x.place; count = x.count; less = omega (arith, f.less, x.less); parsed = by_token f.leads.1 f.leads.2 x.parsed; rest = x.rest }
  items most further (variable k m) c s p n (whole (variable_row {v} at is next)) g low =
      let f = first_step (row.Variable v) n c p at g in
      let len = f.leads.1 in
      let x = items most further m (c + 1) s (p + len) f.count (whole next) (goes_from f.count f.to f.place (c + 1) (p + len) f.leads.5 f.leads.6 f.rest) (omega (arith, low, f.less)) in
      record {
        place = x.place;
        count = x.count;
        less = omega (arith, f.less, x.less);
        parsed = by_variable f.leads.2 (ap (λ (k : FragmentKind). begins k (drop p ts)) (sym is) ∙ f.leads.3) (ap (λ (k : FragmentKind). fragment_len k (drop p ts)) (sym is) ∙ f.leads.4) x.parsed;
        rest = x.rest;
      }
  items most further (repetition body separator op m) c s p n (whole (repetition_rows {begin} {e = e} {behind = b} at skip iteration inner ends rest)) g low =
      let f = first_step (row.Begin begin) n c p at g in
      elim f.leads.1 [
        | inl to ↦ longer (repetition body separator op m) s p f.count n (omega (arith, f.less))
            (iterate f.count most c e b s p body m separator op op refl iteration ends (goes_from f.count f.to f.place (c + 1) p to f.leads.0 f.rest) (omega (arith, low, f.less))
            (λ k a h l. items most further body (c + 2) e a k (whole inner) h l) (λ k a h l. items most further m b s a k (whole rest) h l)
            (λ k a h l. further (repetition body separator (once_more op) m) (c + 1) s a k (inside (repetition_rows at skip iteration inner ends rest)) h l))
        | inr past ↦
            let skips = if_same op.skips b f.to (sym skip ∙ past) in
            let x = items most further m b s p f.count (whole rest) (goes_from f.count f.to f.place b p skips.1 f.leads.0 f.rest) (omega (arith, low, f.less)) in
            record { place = x.place; count = x.count; less = omega (arith, f.less, x.less); parsed = left_out skips.0 x.parsed; rest = x.rest }
      ]
  items most further (repetition body separator op m) c s p n (inside {r = r} {op = own} (repetition_rows {begin} {e = e} {behind = b} at skip iteration inner ends rest)) g low =
      iterate n most r e b s p body m separator (once_more own) own refl iteration ends g low
      (λ k a h l. items most further body (r + 2) e a k (whole inner) h l) (λ k a h l. items most further m b s a k (whole rest) h l)
      (λ k a h l. further (repetition body separator (once_more own) m) (r + 1) s a k (inside (repetition_rows at skip iteration inner ends rest)) h l)

  split : (most : ℕ) → Further most
  split zero m c s p n stand g low = absurd (omega (arith, low))
  split (suc k) m c s p n stand g low = items k (split k) m c s p n stand g (omega (arith, low))

  -- from the begin
  from_begin : (n r p : ℕ) (ps : List Passage) → Reaches bytes rows ts r p ps → Goes n r p → (k : ℕ) × Goes k 0 0
  from_begin n r p ps run.begins g = (n, g)
  from_begin n r p ps (steps {r = s} {p = q} {ps = before} reached step) g = from_begin (suc n) s q before reached (more step g)

  no_step : (r p s q : ℕ) → slice_get rows r ≡ None → Steps bytes rows ts r p s q → ⊥
  no_step r p s q none (goes_on h) = let never : None ≡ Some s = ap (λ (o : Option Row). (ways_from o r).next) (sym none) ∙ h in cc
  no_step r p s q none (turns h) = let never : None ≡ Some s = ap (λ (o : Option Row). (ways_from o r).other) (sym none) ∙ h in cc
  no_step r p s q none (takes {x = t} here h) = let never : None ≡ Some s = ap (λ (o : Option Row). behind_token bytes t o r) (sym none) ∙ h in cc
  no_step r p s q none (reads {n = n} here may h) = let never : None ≡ Some n = ap (λ (o : Option Row). variable_len o (drop p ts)) (sym none) ∙ h in cc

  ended : (n r p : ℕ) → r ≡ length rows → Goes n r p → length ts ≤ p
  ended n r p is (done end past) = past
  ended n r p is (more {s = s} {q = q} step rest) = absurd (no_step r p s q (slice_get_past rows r (omega (arith, is))) step)

  -- what goes through the rows is parsed by the matcher
  pub run_parses : (m : Matcher) → LaysOut rows 0 m (length rows) → (ps : List Passage) → run.Parses bytes rows ts ps → (q : ℕ) × (length ts ≤ q) × grammar.Parses bytes ts m 0 q
  run_parses m lay ps parse =
      let g = from_begin 0 (length rows) parse.place parse.before parse.reached (done refl parse.whole) in
      let x = split (suc g.0) m 0 (length rows) 0 g.0 (whole lay) g.1 (omega arith) in
      (x.place, ended x.count (length rows) x.place refl x.rest, x.parsed)

-- What stands at the next place: threads behind a token, or behind a fragment.
use Rattle.std.proofs.Common.{◌≡◌, ◌∙◌, ℕ, zero, suc, ◌+◌, ◌<◌, ◌≤◌, Bool, true, false, Option, Some, None, List, [], ◌∷◌, ◌++◌, length, drop, slice_get, refl, ap, sym, subst, arith}
use Rattle.std.specs.Prelude.{nat_lt}
use Rattle.std.proofs.lemmas.Bool.{ltb-true, ltb-false}
use Rattle.std.proofs.lemmas.List.{drop_all}
use Rattle.std.proofs.lemmas.Option.{slice_get_within}
use Rattle.macro_rules.proofs.Linked.{Extends, extends_itself, extends_on, extends_back, Covered, covered_stays, Segment, pushed, gone_goes}
use Rattle.macro_rules.specs.Runs.{Steps, takes, reads}
use Rattle.macro_rules.specs.Threads as thread
use Rattle.macro_rules.specs.Threads.{thread_at, standing, gone, behind_token, token_way, taken, variable_len, behind_fragment, with_read}
use Rattle.macro_rules.specs.declared.matching.Thread.{Thread}
use Rattle.macro_rules.specs.declared.row.Row.{Row}
use Rattle.macro_rules.specs.declared.token.Token.{Token}

module _ (bytes : List ℕ) (rows : List Row) (ts : List Token) where
  none_behind : (log : List Thread) → drop (length log) log ≡ []
  none_behind log = drop_all (length log) log (omega arith)

  -- behind all threads stand none yet
  pub begun : (log : List Thread) (from place next : ℕ) → Segment bytes rows ts log from place → Segment bytes rows ts log (length log) next
  begun log from place next segment = record {
    low = omega arith;
    linked = segment.linked;
    placed = λ i t low h. absurd (omega (arith, low, slice_get_within log i t h));
    few = λ r. subst (λ (l : List Thread). standing r l ≤ 2) (sym (none_behind log)) (omega arith);
  }

  -- threads of a segment from a number on took a token, where they could
  pub record Taken (old log longer : List Thread) (next place : ℕ) (x : Token) : Type 0 where
    pub extends : Extends log longer
    pub segment : Segment bytes rows ts longer (length old) place
    pub covered : (i : ℕ) (t : Thread) → next ≤ i → slice_get old i ≡ Some t → (r : ℕ) → behind_token bytes x (slice_get rows t.row) t.row ≡ Some r → Covered longer (length old) r place i

  taken_next : (old log mid longer : List Thread) (at place : ℕ) (x : Token) → Taken old mid longer (at + 1) place x → Extends log mid
      → ((t : Thread) → slice_get old at ≡ Some t → (r : ℕ) → behind_token bytes x (slice_get rows t.row) t.row ≡ Some r → Covered mid (length old) r place at) → Taken old log longer at place x
  taken_next old log mid longer at place x rest more own = record {
    extends = extends_on log mid longer more rest.extends;
    segment = rest.segment;
    covered = λ i t next h r e. by i t next h r e (nat_lt at i) refl;
  }
    where
      by : (i : ℕ) (t : Thread) → at ≤ i → slice_get old i ≡ Some t → (r : ℕ) → behind_token bytes x (slice_get rows t.row) t.row ≡ Some r → (b : Bool) → nat_lt at i ≡ b → Covered longer (length old) r place i
      by i t next h r e true f = rest.covered i t (omega (arith, ltb-true at i f)) h r e
      by i t next h r e false f =
          let is : at ≡ i = omega (arith, next, ltb-false at i f) in
          let there : slice_get old at ≡ Some t = ap (slice_get old) is ∙ h in
          subst (λ (k : ℕ). Covered longer (length old) r place k) is (covered_stays mid longer (length old) r place at rest.extends (own t there r e))

  pub taken_goes : (old : List Thread) (from place n at : ℕ) (x : Token) (log : List Thread) → Segment bytes rows ts old from place → slice_get ts place ≡ Some x → from ≤ at → at + n ≡ length old → Extends old log → Segment bytes rows ts log (length old) (place + 1)
      → Taken old log (taken bytes rows x (length old) (place + 1) n at log) at (place + 1) x
  taken_goes old from place zero at x log own_place here low sum more segment =
      record { extends = extends_itself log; segment = segment; covered = λ i t next h r e. absurd (omega (arith, next, sum, slice_get_within old i t h)) }
  taken_goes old from place (suc n) at x log own_place here low sum more segment =
      by (λ l m s. taken_goes old from place n (at + 1) x l own_place here (omega (arith, low)) (omega (arith, sum)) m s) (slice_get log at) refl
    where
      by : ((l : List Thread) → Extends old l → Segment bytes rows ts l (length old) (place + 1) → Taken old l (taken bytes rows x (length old) (place + 1) n (at + 1) l) (at + 1) (place + 1) x) → (o : Option Thread) → slice_get log at ≡ o
          → Taken old log (taken bytes rows x (length old) (place + 1) n (at + 1) (gone (length old) (token_way bytes rows x o) (place + 1) at log)) at (place + 1) x
      by rest None e =
          taken_next old log log (taken bytes rows x (length old) (place + 1) n (at + 1) log) at (place + 1) x (rest log more segment) (extends_itself log)
          (λ t h r f. let never : None ≡ Some t = sym e ∙ more.same at t h in cc)
      by rest (Some t) e =
          let own : slice_get old at ≡ Some t = extends_back old log at t more (omega (arith, sum)) e in
          let is : t.place ≡ place = own_place.placed at t low own in
          let way = behind_token bytes x (slice_get rows t.row) t.row in
          let mid = gone (length old) way (place + 1) at log in
          let went = gone_goes bytes rows ts log (length old) (place + 1) at t way segment e (λ r f. subst (λ (p : ℕ). Steps bytes rows ts t.row p r (place + 1)) (sym is) (takes here f)) in
          taken_next old log mid (taken bytes rows x (length old) (place + 1) n (at + 1) mid) at (place + 1) x (rest mid (extends_on old log mid more went.extends) went.segment) went.extends
          (λ u h r f.
          let both : Some t ≡ Some u = sym own ∙ h in
          let same : u ≡ t = cc in
          went.covered r (ap (λ (v : Thread). behind_token bytes x (slice_get rows v.row) v.row) (sym same) ∙ f))

  -- a thread of a segment read a fragment
  pub read_goes : (log : List Thread) (from place reader len : ℕ) (t : Thread) (x : Token) → Segment bytes rows ts log from place → from ≤ reader → slice_get log reader ≡ Some t → slice_get ts place ≡ Some x → thread.reads (slice_get rows t.row) (drop place ts) ≡ true → variable_len (slice_get rows t.row) (drop place ts) ≡ Some len
      → Segment bytes rows ts (log ++ thread_at (t.row + 1) (place + len) reader ∷ []) (length log) (place + len)
  read_goes log from place reader len t x segment low there here may goes =
      let is : t.place ≡ place = segment.placed reader t low there in
      pushed bytes rows ts log (length log) (place + len) (thread_at (t.row + 1) (place + len) reader) t (begun log from place (place + len) segment) there
      (subst (λ (p : ℕ). Steps bytes rows ts t.row p (t.row + 1) (place + len)) (sym is) (reads here may goes)) refl
      (subst (λ (l : List Thread). standing (t.row + 1) l < 2) (sym (none_behind log)) (omega arith))

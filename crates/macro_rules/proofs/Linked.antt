-- Lists of threads, each of which stands behind an earlier one by a step of a parse, and what is added to them.
use Rattle.std.proofs.Common.{◌≡◌, ◌∙◌, ℕ, zero, suc, ◌+◌, ◌-◌, ◌<◌, ◌≤◌, ◌≢◌, Bool, true, false, Option, Some, None, List, [], ◌∷◌, ◌++◌, length, drop, get_or, slice_get, nat_eq, refl, ap, sym, subst, inl, inr, arith, length-append}
use Rattle.std.specs.Prelude.{◌⊎◌, nat_lt}
use Rattle.std.proofs.lemmas.Bool.{cond_both, eqb-true, eq-eqb, ltb-true, ltb-false}
use Rattle.std.proofs.lemmas.List.{drop-append-le}
use Rattle.std.proofs.lemmas.List.Sums.{sum_by-cons, sum_by-append}
use Rattle.std.proofs.lemmas.Option.{slice_get_within, slice_get-get_or}
use Rattle.macro_rules.proofs.Numbers.{get_drop, once, yes_is, no_is, TwoIn, counted_two}
use Rattle.macro_rules.specs.Runs.{Steps, goes_on, turns}
use Rattle.macro_rules.specs.Threads.{thread_at, standing, entered, ways_from, gone, followed_to, followed, closed}
use Rattle.macro_rules.specs.declared.matching.Thread.{Thread}
use Rattle.macro_rules.specs.declared.row.Row.{Row}
use Rattle.macro_rules.specs.declared.token.Token.{Token}

get_old : {X : Type 0} (xs : List X) (x y : X) (i : ℕ) → slice_get xs i ≡ Some y → slice_get (xs ++ x ∷ []) i ≡ Some y
get_old [] x y i h = cc
get_old (z ∷ xs) x y zero h = h
get_old (z ∷ xs) x y (suc i) h = get_old xs x y i h

pub get_new : {X : Type 0} (xs : List X) (x : X) → slice_get (xs ++ x ∷ []) (length xs) ≡ Some x
get_new [] x = refl
get_new (z ∷ xs) x = get_new xs x

-- the last element, or one before it
push_cases : {X : Type 0} (xs : List X) (x y : X) (i : ℕ) → slice_get (xs ++ x ∷ []) i ≡ Some y → (slice_get xs i ≡ Some y) ⊎ ((i ≡ length xs) × (x ≡ y))
push_cases [] x y zero h = inr (refl, cc)
push_cases [] x y (suc i) h = cc
push_cases (z ∷ xs) x y zero h = inl h
push_cases (z ∷ xs) x y (suc i) h = elim (push_cases xs x y i h) [ inl a ↦ inl a | inr b ↦ inr (omega (arith, b.0), b.1) ]

-- a longer list has the same threads at the numbers that there are
pub record Extends (log longer : List Thread) : Type 0 where
  pub len : length log ≤ length longer
  pub same : (i : ℕ) (t : Thread) → slice_get log i ≡ Some t → slice_get longer i ≡ Some t

pub extends_itself : (log : List Thread) → Extends log log
extends_itself log = record { len = omega arith; same = λ i t h. h }

pub extends_on : (a b c : List Thread) → Extends a b → Extends b c → Extends a c
extends_on a b c f g = record { len = omega (arith, f.len, g.len); same = λ i t h. g.same i t (f.same i t h) }

pub extends_push : (log : List Thread) (t : Thread) → Extends log (log ++ t ∷ [])
extends_push log t = record { len = omega (arith, length-append log (t ∷ [])); same = λ i u h. get_old log t u i h }

pub extends_back : (log longer : List Thread) (i : ℕ) (t : Thread) → Extends log longer → i < length log → slice_get longer i ≡ Some t → slice_get log i ≡ Some t
extends_back log longer i t more within h =
    let own : slice_get log i ≡ Some (get_or log i t) = slice_get-get_or log i t within in
    let there : slice_get longer i ≡ Some (get_or log i t) = more.same i (get_or log i t) own in
    let is : Some (get_or log i t) ≡ Some t = sym there ∙ h in
    own ∙ is

-- two threads from a number on stand at a position
abbrev pub Crowded : List Thread → ℕ → ℕ → Type 0
Crowded log from r = TwoIn (λ (t : Thread). nat_eq t.row r) (drop from log)

pub crowded : (log : List Thread) (from r i j : ℕ) (t u : Thread) → from ≤ i → i < j → slice_get log i ≡ Some t → slice_get log j ≡ Some u → t.row ≡ r → u.row ≡ r → Crowded log from r
crowded log from r i j t u low less at_i at_j is also =
    let a : from + (i - from) ≡ i = omega (arith, low) in
    let b : from + (j - from) ≡ j = omega (arith, low, less) in
    record {
      first = i - from;
      second = j - from;
      one = t;
      other = u;
      less = omega (arith, low, less);
      first_is = get_drop from log (i - from) ∙ ap (slice_get log) a ∙ at_i;
      second_is = get_drop from log (j - from) ∙ ap (slice_get log) b ∙ at_j;
      first_passes = eq-eqb t.row r is;
      second_passes = eq-eqb u.row r also;
    }

pub crowded_stays : (log longer : List Thread) (from r : ℕ) → Extends log longer → Crowded log from r → Crowded longer from r
crowded_stays log longer from r more c =
    crowded longer from r (from + c.first) (from + c.second) c.one c.other (omega arith) (omega (arith, c.less))
    (more.same (from + c.first) c.one (sym (get_drop from log c.first) ∙ c.first_is)) (more.same (from + c.second) c.other (sym (get_drop from log c.second) ∙ c.second_is))
    (eqb-true c.one.row r c.first_passes) (eqb-true c.other.row r c.second_passes)

-- a thread stands at a position, behind the one of a number
abbrev pub Arrives : List Thread → ℕ → ℕ → ℕ → ℕ → Type 0
Arrives log from r place i = (k : ℕ) × (from ≤ k) × (i < k) × (slice_get log k ≡ Some (thread_at r place i))

-- it does, or two others are there
abbrev pub Covered : List Thread → ℕ → ℕ → ℕ → ℕ → Type 0
Covered log from r place i = Arrives log from r place i ⊎ Crowded log from r

pub covered_stays : (log longer : List Thread) (from r place i : ℕ) → Extends log longer → Covered log from r place i → Covered longer from r place i
covered_stays log longer from r place i more c =
    elim c [
      | inl a ↦ inl (a.0, a.1, a.2, more.same a.0 (thread_at r place i) a.3)
      | inr b ↦ inr (crowded_stays log longer from r more b)
    ]

abbrev before_of : Option Thread → ℕ
before_of None = 0
before_of (Some t) = t.before

-- behind two numbers two arrive
pub two_arrive : (log : List Thread) (from r place i j : ℕ) → i < j → Covered log from r place i → Covered log from r place j → Crowded log from r
two_arrive log from r place i j less c d =
    elim c [
      | inl a ↦ elim d [
        | inl b ↦ apart log from r place i j less a b
        | inr b ↦ b
      ]
      | inr a ↦ a
    ]
  where
    apart : (log : List Thread) (from r place i j : ℕ) → i < j → Arrives log from r place i → Arrives log from r place j → Crowded log from r
    apart log from r place i j less a b =
        by (nat_lt a.0 b.0) refl (nat_lt b.0 a.0) refl
      where
        by : (x : Bool) → nat_lt a.0 b.0 ≡ x → (y : Bool) → nat_lt b.0 a.0 ≡ y → Crowded log from r
        by true e y f = crowded log from r a.0 b.0 (thread_at r place i) (thread_at r place j) a.1 (ltb-true a.0 b.0 e) a.3 b.3 refl refl
        by false e true f = crowded log from r b.0 a.0 (thread_at r place j) (thread_at r place i) b.1 (ltb-true b.0 a.0 f) b.3 a.3 refl refl
        by false e false f =
            let k : a.0 ≡ b.0 = omega (arith, ltb-false a.0 b.0 e, ltb-false b.0 a.0 f) in
            let t : Some (thread_at r place i) ≡ Some (thread_at r place j) = sym a.3 ∙ ap (slice_get log) k ∙ b.3 in
            let same : i ≡ j = ap before_of t in
            absurd (omega (arith, less, same))

module _ (bytes : List ℕ) (rows : List Row) (ts : List Token) where
  -- a thread is the first, or stands behind an earlier one by a step
  pub data Link (log : List Thread) (i : ℕ) (t : Thread) : Type 0 where
    first : i ≡ 0 → t ≡ thread_at 0 0 0 → Link log i t
    behind : {u : Thread} → i ≢ 0 → t.before < i → slice_get log t.before ≡ Some u → Steps bytes rows ts u.row u.place t.row t.place → Link log i t

  -- threads from a number on stand at a place, and not_so more than two at a position
  pub record Segment (log : List Thread) (from place : ℕ) : Type 0 where
    pub low : from ≤ length log
    pub linked : (i : ℕ) (t : Thread) → slice_get log i ≡ Some t → Link log i t
    pub placed : (i : ℕ) (t : Thread) → from ≤ i → slice_get log i ≡ Some t → t.place ≡ place
    pub few : (r : ℕ) → standing r (drop from log) ≤ 2

  link_stays : (log longer : List Thread) (i : ℕ) (t : Thread) → Extends log longer → Link log i t → Link longer i t
  link_stays log longer i t more (first zeroth is) = first zeroth is
  link_stays log longer i t more (behind {u} past less there step) = behind past less (more.same t.before u there) step

  -- one more thread
  pub pushed : (log : List Thread) (from place : ℕ) (t u : Thread) → Segment log from place → slice_get log t.before ≡ Some u → Steps bytes rows ts u.row u.place t.row t.place → t.place ≡ place → standing t.row (drop from log) < 2
      → Segment (log ++ t ∷ []) from place
  pushed log from place t u segment there step is less =
      let within : t.before < length log = slice_get_within log t.before u there in
      let own : Link (log ++ t ∷ []) (length log) t = behind (λ e. absurd (omega (arith, e, within))) within (get_old log t u t.before there) step in
      let parts : drop from (log ++ t ∷ []) ≡ drop from log ++ t ∷ [] = drop-append-le from log (t ∷ []) segment.low in
      record {
        low = omega (arith, segment.low, length-append log (t ∷ []));
        linked = λ i v h. elim (push_cases log t v i h) [
          | inl a ↦ link_stays log (log ++ t ∷ []) i v (extends_push log t) (segment.linked i v a)
          | inr b ↦ subst (λ (k : ℕ). Link (log ++ t ∷ []) k v) (sym b.0) (subst (λ (w : Thread). Link (log ++ t ∷ []) (length log) w) b.1 own)
        ];
        placed = λ i v low h. elim (push_cases log t v i h) [
          | inl a ↦ segment.placed i v low a
          | inr b ↦ ap (λ (w : Thread). w.place) (sym b.1) ∙ is
        ];
        few = λ r. subst (λ (l : List Thread). standing r l ≤ 2) (sym parts) (by r (nat_eq t.row r) refl (segment.few r));
      }
    where
      by : (r : ℕ) (b : Bool) → nat_eq t.row r ≡ b → standing r (drop from log) ≤ 2 → standing r (drop from log ++ t ∷ []) ≤ 2
      by r true e few =
          let same : standing t.row (drop from log) ≡ standing r (drop from log) = ap (λ (k : ℕ). standing k (drop from log)) (eqb-true t.row r e) in
          let parts : standing r (drop from log ++ t ∷ []) ≡ standing r (drop from log) + standing r (t ∷ []) = sum_by-append (λ (v : Thread). once (nat_eq v.row r)) (drop from log) (t ∷ []) in
          let last : standing r (t ∷ []) ≡ once (nat_eq t.row r) + standing r [] = sum_by-cons (λ (v : Thread). once (nat_eq v.row r)) t [] in
          let nothing : standing r [] ≡ 0 = refl in
          omega (arith, less, same, yes_is (nat_eq t.row r) e, parts, last, nothing)
      by r false e few =
          let parts : standing r (drop from log ++ t ∷ []) ≡ standing r (drop from log) + standing r (t ∷ []) = sum_by-append (λ (v : Thread). once (nat_eq v.row r)) (drop from log) (t ∷ []) in
          let last : standing r (t ∷ []) ≡ once (nat_eq t.row r) + standing r [] = sum_by-cons (λ (v : Thread). once (nat_eq v.row r)) t [] in
          let nothing : standing r [] ≡ 0 = refl in
          omega (arith, few, no_is (nat_eq t.row r) e, parts, last, nothing)

  -- what comes of following a way from a thread: all before stays, and where the way leads a thread stands behind it, or two others
  pub record Went (log longer : List Thread) (from place before : ℕ) (way : Option ℕ) : Type 0 where
    pub extends : Extends log longer
    pub segment : Segment longer from place
    pub covered : (r : ℕ) → way ≡ Some r → Covered longer from r place before

  entered_goes : (log : List Thread) (from place before r : ℕ) (u : Thread) → Segment log from place → slice_get log before ≡ Some u → Steps bytes rows ts u.row u.place r place → from ≤ length log
      → Went log (entered from (thread_at r place before) log) from place before (Some r)
  entered_goes log from place before r u segment there step low =
      let t = thread_at r place before in
      let within : before < length log = slice_get_within log before u there in
      cond_both (nat_lt (standing r (drop from log)) 2) (log ++ t ∷ []) log (λ l. Went log l from place before (Some r))
      (λ does. record {
        extends = extends_push log t;
        segment = pushed log from place t u segment there step refl (ltb-true (standing r (drop from log)) 2 does);
        covered = λ s e.
            let same : r ≡ s = cc in
            inl (length log, low, within, get_new log t ∙ ap (λ (k : ℕ). Some (thread_at k place before)) same);
      })
      (λ not_so. record {
        extends = extends_itself log;
        segment = segment;
        covered = λ s e.
            let same : r ≡ s = cc in
            inr (subst (λ (k : ℕ). Crowded log from k) same (counted_two (λ (v : Thread). nat_eq v.row r) (drop from log) (omega (arith, ltb-false (standing r (drop from log)) 2 not_so))));
      })

  pub gone_goes : (log : List Thread) (from place before : ℕ) (u : Thread) (way : Option ℕ) → Segment log from place → slice_get log before ≡ Some u → ((r : ℕ) → way ≡ Some r → Steps bytes rows ts u.row u.place r place)
      → Went log (gone from way place before log) from place before way
  gone_goes log from place before u None segment there step = record { extends = extends_itself log; segment = segment; covered = λ r e. cc }
  gone_goes log from place before u (Some r) segment there step = entered_goes log from place before r u segment there (step r refl) segment.low

  -- a way from a thread without a token
  abbrev pub Way : Thread → ℕ → Type 0
  Way t r = ((ways_from (slice_get rows t.row) t.row).next ≡ Some r) ⊎ ((ways_from (slice_get rows t.row) t.row).other ≡ Some r)

  pub record Follows (log longer : List Thread) (from place at : ℕ) (t : Thread) : Type 0 where
    pub extends : Extends log longer
    pub segment : Segment longer from place
    pub covered : (r : ℕ) → Way t r → Covered longer from r place at

  followed_goes : (log : List Thread) (from place at : ℕ) (t : Thread) → Segment log from place → from ≤ at → slice_get log at ≡ Some t → Follows log (followed_to (ways_from (slice_get rows t.row) t.row) from at place log) from place at t
  followed_goes log from place at t segment low there =
      let w = ways_from (slice_get rows t.row) t.row in
      let is : place ≡ t.place = sym (segment.placed at t low there) in
      let mid = gone from w.next place at log in
      let one = gone_goes log from place at t w.next segment there (λ r e. subst (λ (p : ℕ). Steps bytes rows ts t.row p r place) is (goes_on e)) in
      let two = gone_goes mid from place at t w.other one.segment (one.extends.same at t there) (λ r e. subst (λ (p : ℕ). Steps bytes rows ts t.row p r place) is (turns e)) in
      record {
        extends = extends_on log mid (gone from w.other place at mid) one.extends two.extends;
        segment = two.segment;
        covered = λ r way. elim way [
          | inl a ↦ covered_stays mid (gone from w.other place at mid) from r place at two.extends (one.covered r a)
          | inr b ↦ two.covered r b
        ];
      }

  -- the threads from a number on, up to another one, have what is reached from them without a token
  abbrev pub Covers : List Thread → ℕ → ℕ → ℕ → Type 0
  Covers log from place upto = (i : ℕ) (t : Thread) → from ≤ i → i < upto → slice_get log i ≡ Some t → (r : ℕ) → Way t r → Covered log from r place i

  covers_next : (log longer : List Thread) (from place at : ℕ) (t : Thread) → Covers log from place at → slice_get log at ≡ Some t → Follows log longer from place at t → Covers longer from place (at + 1)
  covers_next log longer from place at t covers there f i u low less h r way =
      by (nat_lt i at) refl
    where
      by : (b : Bool) → nat_lt i at ≡ b → Covered longer from r place i
      by true e =
          let before : i < at = ltb-true i at e in
          let within : at < length log = slice_get_within log at t there in
          covered_stays log longer from r place i f.extends (covers i u low before (extends_back log longer i u f.extends (omega (arith, before, within)) h) r way)
      by false e =
          let is : i ≡ at = omega (arith, ltb-false i at e, less) in
          let same : Some u ≡ Some t = sym h ∙ ap (slice_get longer) is ∙ f.extends.same at t there in
          let owns : u ≡ t = cc in
          subst (λ (k : ℕ). Covered longer from r place k) (sym is) (f.covered r (subst (λ (v : Thread). Way v r) owns way))

  pub record Closing (log longer : List Thread) (from place : ℕ) : Type 0 where
    pub extends : Extends log longer
    pub segment : Segment longer from place

  -- closing keeps what a segment is
  pub closed_keeps : (from place n at : ℕ) (log : List Thread) → Segment log from place → from ≤ at → Closing log (closed rows from place n at log) from place
  closed_keeps from place zero at log segment low = record { extends = extends_itself log; segment = segment }
  closed_keeps from place (suc n) at log segment low =
      cond_both (nat_lt at (length log)) (closed rows from place n (at + 1) (followed rows from at place (slice_get log at) log)) log (λ l. Closing log l from place)
      (λ _. by (closed_keeps from place n (at + 1)) (slice_get log at) refl) (λ _. record { extends = extends_itself log; segment = segment })
    where
      by : ((l : List Thread) → Segment l from place → from ≤ at + 1 → Closing l (closed rows from place n (at + 1) l) from place) → (o : Option Thread) → slice_get log at ≡ o
          → Closing log (closed rows from place n (at + 1) (followed rows from at place o log)) from place
      by further None e = further log segment (omega (arith, low))
      by further (Some t) e =
          let f = followed_goes log from place at t segment low e in
          let mid = followed rows from at place (Some t) log in
          let more = further mid f.segment (omega (arith, low)) in
          record { extends = extends_on log mid (closed rows from place n (at + 1) mid) f.extends more.extends; segment = more.segment }

  -- and where there are steps enough, all are followed
  pub closed_covers : (from place n at most : ℕ) (log : List Thread) → Segment log from place → from ≤ at → Covers log from place at → ((l : List Thread) → Segment l from place → length l ≤ from + most) → from + most ≤ at + n
      → Covers (closed rows from place n at log) from place (length (closed rows from place n at log))
  closed_covers from place zero at most log segment low covers bound enough = λ i t first less h r way. covers i t first (omega (arith, less, enough, bound log segment)) h r way
  closed_covers from place (suc n) at most log segment low covers bound enough =
      cond_both (nat_lt at (length log)) (closed rows from place n (at + 1) (followed rows from at place (slice_get log at) log)) log (λ l. Covers l from place (length l))
      (λ does. by (λ l s c. closed_covers from place n (at + 1) most l s (omega (arith, low)) c bound (omega (arith, enough))) (slice_get log at) refl does)
      (λ not_so i t first less h r way. covers i t first (omega (arith, less, ltb-false at (length log) not_so)) h r way)
    where
      by : ((l : List Thread) → Segment l from place → Covers l from place (at + 1) → Covers (closed rows from place n (at + 1) l) from place (length (closed rows from place n (at + 1) l))) → (o : Option Thread) → slice_get log at ≡ o → nat_lt at (length log) ≡ true
          → Covers (closed rows from place n (at + 1) (followed rows from at place o log)) from place (length (closed rows from place n (at + 1) (followed rows from at place o log)))
      by further None e does =
          let d = thread_at 0 0 0 in
          let there : slice_get log at ≡ Some (get_or log at d) = slice_get-get_or log at d (ltb-true at (length log) does) in
          let never : None ≡ Some (get_or log at d) = sym e ∙ there in
          cc
      by further (Some t) e does =
          let f = followed_goes log from place at t segment low e in
          let mid = followed rows from at place (Some t) log in
          further mid f.segment (covers_next log mid from place at t covers e f)

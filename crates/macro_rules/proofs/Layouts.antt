-- What is read of a matcher lays out a grammar.
use Rattle.std.proofs.Common.{◌≡◌, ◌∙◌, ℕ, zero, suc, ◌+◌, ◌-◌, ◌<◌, ◌≤◌, ◌≢◌, ◌||◌, Bool, true, false, not, Option, Some, None, List, [], ◌∷◌, ◌++◌, length, take, drop, slice_get, slice_set, refl, ap, sym, subst, inl, inr, arith, is_none, is_some, length-append, length-set}
use Rattle.std.specs.Prelude.{◌⊎◌, ◌&&◌, ◌==◌, nat_le, nat_lt, if◌then◌else◌}
use Rattle.std.proofs.lemmas.Bool.{cond_both, eqb-true}
use Rattle.item_tree.specs.Spans.{piece}
use Rattle.item_tree.specs.declared.lexer.lexeme.Delimiter.TheVariants.{Parenthesis, Brace}
use Rattle.item_tree.specs.declared.lexer.word.Word.TheVariants as word
use Rattle.macro_rules.proofs.Laid.{get_parts}
use Rattle.macro_rules.proofs.Linked.{get_new}
use Rattle.macro_rules.proofs.Repeated.{last_parts}
use Rattle.macro_rules.specs.Extents.{kind_at, is_mark}
use Rattle.macro_rules.specs.FragmentNames.{kind_named}
use Rattle.macro_rules.specs.Grammar.{Operator, Matcher, empty, token, variable, repetition, EndsAs, once, joined, parted, LaysOut, no_rows, token_row, variable_row, repetition_rows}
use Rattle.macro_rules.specs.Read.{Read}
use Rattle.macro_rules.specs.Readings as reading
use Rattle.macro_rules.specs.RuleRows.{RuleRows}
use Rattle.macro_rules.specs.Rules as rule
use Rattle.macro_rules.specs.RulesRead.{RulesRead}
use Rattle.macro_rules.specs.declared.reading.Opening.{Opening}
use Rattle.macro_rules.specs.declared.reading.RuleFault.{RuleFault}
use Rattle.macro_rules.specs.declared.reading.RuleFault.TheVariants as fault
use Rattle.macro_rules.specs.declared.reading.Tail.{Tail}
use Rattle.macro_rules.specs.declared.reading.dollars.Part.{Part}
use Rattle.macro_rules.specs.declared.row.Repetition.{Repetition}
use Rattle.macro_rules.specs.declared.row.Row.{Row}
use Rattle.macro_rules.specs.declared.row.Row.TheVariants as row
use Rattle.macro_rules.specs.declared.rules.Cut.{Cut}
use Rattle.macro_rules.specs.declared.token.FragmentKind.{FragmentKind}
use Rattle.macro_rules.specs.declared.token.Home.{Home}
use Rattle.macro_rules.specs.declared.token.Token.{Token}
use Rattle.macro_rules.specs.declared.token.TokenKind.{TokenKind}
use Rattle.macro_rules.specs.declared.token.TokenKind.TheVariants as kind

-- one matcher behind another
abbrev join : Matcher → Matcher → Matcher
join empty k = k
join (token t m) k = token t (join m k)
join (variable v m) k = variable v (join m k)
join (repetition body separator op m) k = repetition body separator op (join m k)

lays_join : (rows : List Row) (a b c : ℕ) (m k : Matcher) → LaysOut rows a m b → LaysOut rows b k c → LaysOut rows a (join m k) c
lays_join rows a b c m k no_rows next = next
lays_join rows a b c m k (token_row {m = n} at more) next = token_row at (lays_join rows (a + 1) b c n k more next)
lays_join rows a b c m k (variable_row {m = n} at is more) next = variable_row at is (lays_join rows (a + 1) b c n k more next)
lays_join rows a b c m k (repetition_rows {m = n} {behind = d} at skip iteration inner ends more) next = repetition_rows at skip iteration inner ends (lays_join rows d b c n k more next)

ends_low : (rows : List Row) (r e b : ℕ) (separator : Option Token) (op : Operator) → EndsAs rows r e separator op b → e < b
ends_low rows r e b separator op (once not_again at) = omega arith
ends_low rows r e b separator op (joined does at) = omega arith
ends_low rows r e b separator op (parted at mark) = omega arith

lays_low : (rows : List Row) (a b : ℕ) (m : Matcher) → LaysOut rows a m b → a ≤ b
lays_low rows a b m no_rows = omega arith
lays_low rows a b m (token_row {m = n} at more) = omega (arith, lays_low rows (a + 1) b n more)
lays_low rows a b m (variable_row {m = n} at is more) = omega (arith, lays_low rows (a + 1) b n more)
lays_low rows a b m (repetition_rows {body = body} {m = n} {separator = s} {op = op} {e = e} {behind = d} at skip iteration inner ends more) =
    omega (arith, lays_low rows (a + 2) e body inner, ends_low rows a e d s op ends, lays_low rows d b n more)

-- rows that stay as they are between two positions
abbrev Same : List Row → List Row → ℕ → ℕ → Type 0
Same rows other a b = (i : ℕ) (x : Row) → a ≤ i → i < b → slice_get rows i ≡ Some x → slice_get other i ≡ Some x

ends_same : (rows other : List Row) (r e b : ℕ) (separator : Option Token) (op : Operator) → EndsAs rows r e separator op b → Same rows other e b → EndsAs other r e separator op b
ends_same rows other r e b separator op (once not_again at) same = once not_again (same e (row.End None) (omega arith) (omega arith) at)
ends_same rows other r e b separator op (joined does at) same = joined does (same e (row.End (Some (r + 1))) (omega arith) (omega arith) at)
ends_same rows other r e b separator op (parted {t = t} at mark) same = parted (same e (row.End (Some (e + 2))) (omega arith) (omega arith) at) (same (e + 1) (row.Separator t (r + 1)) (omega arith) (omega arith) mark)

lays_same : (rows other : List Row) (a b : ℕ) (m : Matcher) → LaysOut rows a m b → Same rows other a b → LaysOut other a m b
lays_same rows other a b m no_rows same = no_rows
lays_same rows other a b m (token_row {t} {m = n} at more) same =
    token_row (same a (row.Token t) (omega arith) (omega (arith, lays_low rows (a + 1) b n more)) at) (lays_same rows other (a + 1) b n more (λ i x low less h. same i x (omega (arith, low)) less h))
lays_same rows other a b m (variable_row {v} {m = n} at is more) same =
    variable_row (same a (row.Variable v) (omega arith) (omega (arith, lays_low rows (a + 1) b n more)) at) is (lays_same rows other (a + 1) b n more (λ i x low less h. same i x (omega (arith, low)) less h))
lays_same rows other a b m (repetition_rows {begin} {body} {m = n} {separator = s} {op} {e = e} {behind = d} at skip iteration inner ends more) same =
    let first = lays_low rows (a + 2) e body inner in
    let second = ends_low rows a e d s op ends in
    let third = lays_low rows d b n more in
    repetition_rows (same a (row.Begin begin) (omega arith) (omega (arith, first, second, third)) at) skip (same (a + 1) row.Iteration (omega arith) (omega (arith, first, second, third)) iteration)
    (lays_same rows other (a + 2) e body inner (λ i x low less h. same i x (omega (arith, low)) (omega (arith, less, second, third)) h))
    (ends_same rows other a e d s op ends (λ i x low less h. same i x (omega (arith, low, first)) (omega (arith, less, third)) h))
    (lays_same rows other d b n more (λ i x low less h. same i x (omega (arith, low, first, second)) less h))

-- what was read up to a position, where repetitions are open that begin at some positions, the innermost first
data Open (rows : List Row) : List ℕ → ℕ → Type 0 where
  outer : {n : ℕ} (m : Matcher) → LaysOut rows 0 m n → Open rows [] n
  inner : {n b : ℕ} {bs : List ℕ} (x : Repetition) (m : Matcher) → Open rows bs b → slice_get rows b ≡ Some (row.Begin x) → slice_get rows (b + 1) ≡ Some row.Iteration → LaysOut rows (b + 2) m n → Open rows (b ∷ bs) n

open_same : (rows other : List Row) (bs : List ℕ) (n : ℕ) → Open rows bs n → Same rows other 0 n → Open other bs n
open_same rows other bs n (outer m lay) same = outer m (lays_same rows other 0 n m lay same)
open_same rows other bs n (inner {b = b} {bs = before} x m opened at iteration lay) same =
    let low = lays_low rows (b + 2) n m lay in
    inner x m (open_same rows other before b opened (λ i y first less h. same i y first (omega (arith, less, low)) h)) (same b (row.Begin x) (omega arith) (omega (arith, low)) at) (same (b + 1) row.Iteration (omega arith) (omega (arith, low)) iteration)
    (lays_same rows other (b + 2) n m lay (λ i y first less h. same i y (omega arith) less h))

open_more : (rows : List Row) (bs : List ℕ) (n k : ℕ) (m : Matcher) → Open rows bs n → LaysOut rows n m k → Open rows bs k
open_more rows bs n k m (outer own lay) next = outer (join own m) (lays_join rows 0 n k own m lay next)
open_more rows bs n k m (inner {b = b} x own opened at iteration lay) next = inner x (join own m) opened at iteration (lays_join rows (b + 2) n k own m lay next)

get_left : {X : Type 0} (xs ys : List X) (i : ℕ) (x : X) → slice_get xs i ≡ Some x → slice_get (xs ++ ys) i ≡ Some x
get_left [] ys i x h = cc
get_left (z ∷ xs) ys zero x h = h
get_left (z ∷ xs) ys (suc i) x h = get_left xs ys i x h

get_right : {X : Type 0} (xs ys : List X) (i : ℕ) → slice_get (xs ++ ys) (length xs + i) ≡ slice_get ys i
get_right [] ys i = let e : 0 + i ≡ i = omega arith in ap (slice_get ys) e
get_right (z ∷ xs) ys i = let e : suc (length xs) + i ≡ suc (length xs + i) = omega arith in ap (slice_get (z ∷ (xs ++ ys))) e ∙ get_right xs ys i

get_other : {X : Type 0} (xs : List X) (at i : ℕ) (x : X) → i ≢ at → slice_get (slice_set xs at x) i ≡ slice_get xs i
get_other [] at i x apart = refl
get_other (z ∷ xs) zero zero x apart = absurd (apart refl)
get_other (z ∷ xs) zero (suc i) x apart = refl
get_other (z ∷ xs) (suc at) zero x apart = refl
get_other (z ∷ xs) (suc at) (suc i) x apart = get_other xs at i x (λ e. apart (ap suc e))

get_own : {X : Type 0} (xs : List X) (at : ℕ) (x : X) → at < length xs → slice_get (slice_set xs at x) at ≡ Some x
get_own [] at x less = absurd (omega (arith, less))
get_own (z ∷ xs) zero x less = refl
get_own (z ∷ xs) (suc at) x less = get_own xs at x (omega (arith, less))

-- one more position
open_push : (rows : List Row) (bs : List ℕ) (x : Row) (m : Matcher) → Open rows bs (length rows) → LaysOut (rows ++ x ∷ []) (length rows) m (length rows + 1) → Open (rows ++ x ∷ []) bs (length (rows ++ x ∷ []))
open_push rows bs x m opened lay =
    let len : length rows + 1 ≡ length (rows ++ x ∷ []) = sym (length-append rows (x ∷ [])) in
    subst (λ (k : ℕ). Open (rows ++ x ∷ []) bs k) len
    (open_more (rows ++ x ∷ []) bs (length rows) (length rows + 1) m (open_same rows (rows ++ x ∷ []) bs (length rows) opened (λ i y first less h. get_left rows (x ∷ []) i y h)) lay)

token_push : (rows : List Row) (bs : List ℕ) (t : Token) → Open rows bs (length rows) → Open (rows ++ row.Token t ∷ []) bs (length (rows ++ row.Token t ∷ []))
token_push rows bs t opened = open_push rows bs (row.Token t) (token t empty) opened (token_row (get_new rows (row.Token t)) no_rows)

-- where the repetitions begin that are open
abbrev with_begin : Option ℕ → List ℕ → List ℕ
with_begin None bs = bs
with_begin (Some b) bs = b ∷ bs

abbrev onto : List ℕ → List Opening → List ℕ
onto bs [] = bs
onto bs (o ∷ os) = onto (with_begin o.repetition bs) os

onto_push : (bs : List ℕ) (os : List Opening) (o : Opening) → onto bs (os ++ o ∷ []) ≡ with_begin o.repetition (onto bs os)
onto_push bs [] o = refl
onto_push bs (p ∷ os) o = onto_push (with_begin p.repetition bs) os o

-- unless something is wrong, what was read is open so
abbrev Well : Read → Type 0
Well r = (is_some r.state.fault ≡ true) ⊎ Open r.rows (onto [] r.groups) (length r.rows)

well_or : (r s : Read) → (is_some r.state.fault ≡ true → is_some s.state.fault ≡ true) → (Open r.rows (onto [] r.groups) (length r.rows) → Well s) → Well r → Well s
well_or r s wrong right well = elim well [ inl a ↦ inl (wrong a) | inr b ↦ right b ]

added_well : (t : Token) (n : ℕ) (r : Read) → Well r → Well (reading.added (row.Token t) n r)
added_well t n r well = well_or r (reading.added (row.Token t) n r) (λ a. a) (λ b. inr (token_push r.rows (onto [] r.groups) t b)) well

group_well : (t : Token) (r : Read) → Well r → Well (reading.group_opened t r)
group_well t r well =
    let o : Opening = record { repetition = None; within = r.state.within; bare = false } in
    well_or r (reading.group_opened t r) (λ a. a)
    (λ b. inr (subst (λ (bs : List ℕ). Open (r.rows ++ row.Token t ∷ []) bs (length (r.rows ++ row.Token t ∷ []))) (sym (onto_push [] r.groups o)) (token_push r.rows (onto [] r.groups) t b))) well

opened_well : (r : Read) → Well r → Well (reading.repetition_opened true r)
opened_well r well = well_or r (reading.repetition_opened true r) (λ a. a) (λ b. inr (opens b)) well
  where
    opens : Open r.rows (onto [] r.groups) (length r.rows) → Open (reading.repetition_opened true r).rows (onto [] (reading.repetition_opened true r).groups) (length (reading.repetition_opened true r).rows)
    opens opened =
        let n = length r.rows in
        let x : Repetition = record { end = n; behind = None; within = r.state.within } in
        let one = r.rows ++ row.Begin x ∷ [] in
        let both = one ++ row.Iteration ∷ [] in
        let o : Opening = record { repetition = Some n; within = r.state.within; bare = r.state.bare } in
        let len_one : length one ≡ n + 1 = length-append r.rows (row.Begin x ∷ []) in
        let two : length one + 1 ≡ n + 2 = omega (arith, len_one) in
        let len : n + 2 ≡ length both = sym (length-append one (row.Iteration ∷ []) ∙ two) in
        let at : slice_get both n ≡ Some (row.Begin x) = get_left one (row.Iteration ∷ []) n (row.Begin x) (get_new r.rows (row.Begin x)) in
        let iteration : slice_get both (n + 1) ≡ Some row.Iteration = ap (slice_get both) (sym len_one) ∙ get_new one row.Iteration in
        let before = open_same r.rows both (onto [] r.groups) n opened (λ i y first less h. get_left one (row.Iteration ∷ []) i y (get_left r.rows (row.Begin x ∷ []) i y h)) in
        subst (λ (bs : List ℕ). Open both bs (length both)) (sym (onto_push [] r.groups o))
        (subst (λ (k : ℕ). Open both (n ∷ onto [] r.groups) k) len (inner x empty before at iteration no_rows))

abbrev reading_separator : Tail → Token → Option Token
reading_separator t separator = if t.separated then Some separator else None

ended_as : (rows : List Row) (begin n : ℕ) (t : Tail) (separator : Token) (size : ℕ) → size ≡ n + length (reading.ends begin t separator n) → ((k : ℕ) → slice_get rows (n + k) ≡ slice_get (reading.ends begin t separator n) k)
    → EndsAs rows begin n (reading_separator t separator) (record { skips = t.skips; repeats = t.again }) size
ended_as rows begin n t separator size = by t.separated t.again
  where
    at : (k : ℕ) (xs : List Row) → ((k : ℕ) → slice_get rows (n + k) ≡ slice_get xs k) → slice_get rows n ≡ slice_get xs 0
    at k xs all = let e : n ≡ n + 0 = omega arith in ap (slice_get rows) e ∙ all 0

    by : (a b : Bool)
        → size ≡ n + length (if a then row.End (Some (n + 2)) ∷ row.Separator separator (begin + 1) ∷ [] else if b then row.End (Some (begin + 1)) ∷ [] else row.End None ∷ [])
        → ((k : ℕ) → slice_get rows (n + k) ≡ slice_get (if a then row.End (Some (n + 2)) ∷ row.Separator separator (begin + 1) ∷ [] else if b then row.End (Some (begin + 1)) ∷ [] else row.End None ∷ []) k)
        → EndsAs rows begin n (if a then Some separator else None) (record { skips = t.skips; repeats = b }) size
    by true b len all = subst (λ (k : ℕ). EndsAs rows begin n (Some separator) (record { skips = t.skips; repeats = b }) k) (sym len) (parted (at 0 (row.End (Some (n + 2)) ∷ row.Separator separator (begin + 1) ∷ []) all) (all 1))
    by false true len all = subst (λ (k : ℕ). EndsAs rows begin n None (record { skips = t.skips; repeats = true }) k) (sym len) (joined refl (at 0 (row.End (Some (begin + 1)) ∷ []) all))
    by false false len all = subst (λ (k : ℕ). EndsAs rows begin n None (record { skips = t.skips; repeats = false }) k) (sym len) (once refl (at 0 (row.End None ∷ []) all))

-- a repetition ends: what it has lays out its body
closed_open : (r : Read) (begin : ℕ) (bs : List ℕ) (t : Tail) (separator : Token) (within : Option ℕ) → Open r.rows (begin ∷ bs) (length r.rows)
    → Open (reading.end_noted begin (length r.rows) t within (reading.ended begin t separator r)).rows bs (length (reading.end_noted begin (length r.rows) t within (reading.ended begin t separator r)).rows)
closed_open r begin bs t separator within (inner x m opened at iteration lay) =
    let n = length r.rows in
    let ends = reading.ends begin t separator n in
    let more = r.rows ++ ends in
    let end : Repetition = record { end = n; behind = if t.skips then Some (length more) else None; within = within } in
    let rows = slice_set more begin (row.Begin end) in
    let low = lays_low r.rows (begin + 2) n m lay in
    let len : length rows ≡ length more = length-set more begin (row.Begin end) in
    let size : length more ≡ n + length ends = length-append r.rows ends in
    let same : (i : ℕ) (y : Row) → i < n → i ≢ begin → slice_get r.rows i ≡ Some y → slice_get rows i ≡ Some y =
    (λ i y less apart h. get_other more begin i (row.Begin end) apart ∙ get_left r.rows ends i y h) in
    let behind : (k : ℕ) → slice_get rows (n + k) ≡ slice_get ends k = (λ k. get_other more begin (n + k) (row.Begin end) (λ e. absurd (omega (arith, e, low))) ∙ get_right r.rows ends k) in
    let op : Operator = record { skips = t.skips; repeats = t.again } in
    let own : LaysOut rows begin (repetition m (reading_separator t separator) op empty) (length rows) =
    repetition_rows {begin = end} {op = op} (get_own more begin (row.Begin end) (omega (arith, low, size)))
    (ap (λ (k : ℕ). if t.skips then Some k else None) (sym len)) (same (begin + 1) row.Iteration (omega (arith, low)) (λ e. absurd (omega (arith, e))) iteration)
    (lays_same r.rows rows (begin + 2) n m lay (λ i y first less h. same i y less (λ e. absurd (omega (arith, e, first))) h))
    (ended_as rows begin n t separator (length rows) (len ∙ size) behind) no_rows in
    open_more rows bs begin (length rows) (repetition m (reading_separator t separator) op empty)
    (open_same r.rows rows bs begin opened (λ i y first less h. same i y (omega (arith, less, low)) (λ e. absurd (omega (arith, e, less))) h)) own

closed_well : (begin : ℕ) (o : Opening) (t : Tail) (separator : Token) (r : Read) (bs : List ℕ) → onto [] r.groups ≡ bs → Open r.rows (begin ∷ bs) (length r.rows) → Well (reading.repetition_closed begin o t separator r)
closed_well begin o t separator r bs are opened =
    cond_both (nat_le (length r.rows) begin || (r.state.bare && not t.separated)) (reading.failed fault.EmptyRepetition r) (reading.left_group o t r.state.bare (reading.end_noted begin (length r.rows) t o.within (reading.ended begin t separator r))) Well
    (λ _. inl refl)
    (λ _.
    let s = reading.end_noted begin (length r.rows) t o.within (reading.ended begin t separator r) in
    inr (subst (λ (l : List ℕ). Open s.rows l (length s.rows)) (sym are) (closed_open r begin bs t separator o.within opened)))

closed_with_well : (f : Option Tail) (begin : ℕ) (o : Opening) (mark : Token) (ts : List Token) (r : Read) (bs : List ℕ) → onto [] r.groups ≡ bs → Open r.rows (begin ∷ bs) (length r.rows) → Well (reading.closed_with f begin o mark ts r)
closed_with_well None begin o mark ts r bs are opened = inl refl
closed_with_well (Some t) begin o mark ts r bs are opened = closed_well begin o t (reading.token_at ts 1 mark) r bs are opened

closed_by_well : (q : Option ℕ) (o : Opening) (mark : Token) (ts : List Token) (r : Read) → Open r.rows (with_begin q (onto [] r.groups)) (length r.rows) → Well (reading.closed_by q o mark ts r)
closed_by_well None o mark ts r opened = added_well mark 0 r (inr opened)
closed_by_well (Some begin) o mark ts r opened = closed_with_well (reading.tail ts) begin o mark ts r (onto [] r.groups) refl opened

failed_stays : (f : Option RuleFault) (g : RuleFault) → is_some (Some g) ≡ true
failed_stays f g = refl

-- the fault of before, or another
closed_fault : (o : Option Opening) (mark : Token) (ts : List Token) (r : Read) → is_some r.state.fault ≡ true → is_some (reading.closed_group o mark ts r).state.fault ≡ true
closed_fault None mark ts r wrong = refl
closed_fault (Some o) mark ts r wrong = by_group o.repetition
  where
    by_tail : (begin : ℕ) (f : Option Tail) → is_some (reading.closed_with f begin o mark ts (reading.without_last r)).state.fault ≡ true
    by_tail begin None = refl
    by_tail begin (Some t) =
        let s = reading.without_last r in
        cond_both (nat_le (length s.rows) begin || (s.state.bare && not t.separated)) (reading.failed fault.EmptyRepetition s) (reading.left_group o t s.state.bare (reading.end_noted begin (length s.rows) t o.within (reading.ended begin t (reading.token_at ts 1 mark) s)))
        (λ (v : Read). is_some v.state.fault ≡ true) (λ _. refl) (λ _. wrong)

    by_group : (q : Option ℕ) → is_some (reading.closed_by q o mark ts (reading.without_last r)).state.fault ≡ true
    by_group None = wrong
    by_group (Some begin) = by_tail begin (reading.tail ts)

closed_group_well : (mark : Token) (ts : List Token) (r : Read) → Well r → Well (reading.group_closed mark ts r)
closed_group_well mark ts r well = by (slice_get r.groups (length r.groups - 1)) refl
  where
    by : (o : Option Opening) → slice_get r.groups (length r.groups - 1) ≡ o → Well (reading.closed_group o mark ts r)
    by None e = inl refl
    by (Some o) e =
        well_or r (reading.closed_group (Some o) mark ts r) (λ wrong. closed_fault (Some o) mark ts r wrong)
        (λ opened. closed_by_well o.repetition o mark ts (reading.without_last r)
        (subst (λ (l : List ℕ). Open r.rows l (length r.rows)) (ap (λ (os : List Opening). onto [] os) (last_parts r.groups o e) ∙ onto_push [] (take (length r.groups - 1) r.groups) o) opened)) well

variable_well : (bytes : List ℕ) (name : Token) (f : Option FragmentKind) (r : Read) → Well r → Well (reading.variable_with bytes name f r)
variable_well bytes name None r well = inl refl
variable_well bytes name (Some k) r well =
    cond_both (is_some (reading.found bytes r.rows name)) (reading.failed fault.TwoOfAName r) (reading.variable_added name k r) Well (λ _. inl refl)
    (λ _.
    let x = reading.variable_of name k r.state.within in
    well_or r (reading.variable_added name k r) (λ a. a) (λ b. inr (open_push r.rows (onto [] r.groups) x (variable k empty) b (variable_row (get_new r.rows x) refl no_rows))) well)

name_well : (p : Part) (bytes : List ℕ) (matcher : List Row) (mark name : Token) (ts : List Token) (r : Read) → p.is_matcher ≡ true → Well r → Well (reading.name_read p bytes matcher mark name ts r)
name_well p bytes matcher mark name ts r is well =
    let f = kind_named p.home.edition (piece bytes (reading.token_at ts 3 name).span) in
    let read = cond_both (is_mark 58 (kind_at ts 2)) (reading.variable_with bytes name f r) (reading.failed fault.NoKind r) Well (λ _. variable_well bytes name f r well) (λ _. inl refl) in
    subst (λ (b : Bool). Well (if b then reading.variable_read bytes p.home.edition name ts r else reading.captured mark (reading.found bytes matcher name) r)) (sym is) read

dollar_well : (k : TokenKind) (p : Part) (bytes : List ℕ) (matcher : List Row) (mark : Token) (ts : List Token) (r : Read) → p.is_matcher ≡ true → Well r → Well (reading.dollar_before k p bytes matcher mark ts r)
dollar_well (kind.Open Parenthesis) p bytes matcher mark ts r is well = subst (λ (b : Bool). Well (reading.repetition_opened b r)) (sym is) (opened_well r well)
dollar_well (kind.Open Brace) p bytes matcher mark ts r is well = inl refl
dollar_well (kind.Word word.Crate) p bytes matcher mark ts r is well =
    let t : Token = record { kind = kind.DollarCrate p.home.krate; span = (reading.token_at ts 1 mark).span } in
    added_well t 1 r well
dollar_well (kind.Word w) p bytes matcher mark ts r is well = name_well p bytes matcher mark (reading.token_at ts 1 mark) ts r is well
dollar_well (kind.Keyword w) p bytes matcher mark ts r is well = name_well p bytes matcher mark (reading.token_at ts 1 mark) ts r is well
dollar_well (kind.Close d) p bytes matcher mark ts r is well = added_well mark 0 r well
dollar_well k p bytes matcher mark ts r is well = other_well k mark (length ts) r well
  where
    other_well : (k : TokenKind) (mark : Token) (len : ℕ) (r : Read) → Well r → Well (reading.other_read k mark len r)
    other_well k mark len r well =
        cond_both (is_mark 36 k) (reading.failed fault.Unsupported r) (if nat_lt 1 len then reading.failed fault.BadRule r else reading.added (row.Token mark) 0 r) Well (λ _. inl refl)
        (λ _. cond_both (nat_lt 1 len) (reading.failed fault.BadRule r) (reading.added (row.Token mark) 0 r) Well (λ _. inl refl) (λ _. added_well mark 0 r well))

dollar_read_well : (p : Part) (bytes : List ℕ) (matcher : List Row) (mark : Token) (ts : List Token) (r : Read) → p.is_matcher ≡ true → Well r → Well (reading.dollar_read p bytes matcher mark ts r)
unfolding reading.dollar_read
dollar_read_well p bytes matcher mark ts r is well = dollar_well (kind_at ts 1) p bytes matcher mark ts r is well

plain_well : (k : TokenKind) (p : Part) (bytes : List ℕ) (matcher : List Row) (mark : Token) (ts : List Token) (r : Read) → p.is_matcher ≡ true → Well r
    → Well (if is_mark 36 k then reading.dollar_read p bytes matcher mark ts r else if is_mark 35 k then reading.hash_read p.is_matcher mark ts r else reading.added (row.Token mark) 0 r)
plain_well k p bytes matcher mark ts r is well =
    cond_both (is_mark 36 k) (reading.dollar_read p bytes matcher mark ts r) (if is_mark 35 k then reading.hash_read p.is_matcher mark ts r else reading.added (row.Token mark) 0 r) Well
    (λ _. dollar_read_well p bytes matcher mark ts r is well)
    (λ _. cond_both (is_mark 35 k) (reading.hash_read p.is_matcher mark ts r) (reading.added (row.Token mark) 0 r) Well
    (λ _. cond_both (p.is_matcher && not (reading.doc_len ts == 0)) (reading.skipping (reading.doc_len ts) r) (reading.added (row.Token mark) 0 r) Well (λ _. well) (λ _. added_well mark 0 r well))
    (λ _. added_well mark 0 r well))

kind_well : (k : TokenKind) (p : Part) (bytes : List ℕ) (matcher : List Row) (mark : Token) (ts : List Token) (r : Read) → p.is_matcher ≡ true → Well r → Well (reading.kind_read k p bytes matcher mark ts r)
kind_well (kind.Open d) p bytes matcher mark ts r is well = group_well mark r well
kind_well (kind.Close d) p bytes matcher mark ts r is well = closed_group_well mark ts r well
kind_well k p bytes matcher mark ts r is well = plain_well k p bytes matcher mark ts r is well

one_well : (p : Part) (bytes : List ℕ) (matcher : List Row) (mark : Token) (ts : List Token) (r : Read) → p.is_matcher ≡ true → Well r → Well (reading.one_read p bytes matcher mark ts r)
unfolding reading.one_read
one_well p bytes matcher mark ts r is well =
    cond_both (is_some r.state.fault) r (if not (r.state.skipped == 0) then reading.skipping (r.state.skipped - 1) r else reading.kind_read mark.kind p bytes matcher mark ts r) Well (λ _. well)
    (λ _. cond_both (not (r.state.skipped == 0)) (reading.skipping (r.state.skipped - 1) r) (reading.kind_read mark.kind p bytes matcher mark ts r) Well (λ _. well) (λ _. kind_well mark.kind p bytes matcher mark ts r is well))

all_well : (p : Part) (bytes : List ℕ) (matcher : List Row) (ts : List Token) (r : Read) → p.is_matcher ≡ true → Well r → Well (reading.all_read p bytes matcher ts r)
all_well p bytes matcher [] r is well = well
all_well p bytes matcher (t ∷ ts) r is well = all_well p bytes matcher ts (reading.one_read p bytes matcher t (t ∷ ts) r) is (one_well p bytes matcher t (t ∷ ts) r is well)

-- a matcher in which nothing is wrong
abbrev Laid : List Row → Type 0
Laid rows = (m : Matcher) × LaysOut rows 0 m (length rows)

only_outer : (rows : List Row) (bs : List ℕ) (n : ℕ) → bs ≡ [] → Open rows bs n → (m : Matcher) × LaysOut rows 0 m n
only_outer rows bs n is (outer m lay) = (m, lay)
only_outer rows bs n is (inner x m opened at iteration lay) = cc

no_groups : (gs : List Opening) → length gs ≡ 0 → onto [] gs ≡ []
no_groups [] h = refl
no_groups (g ∷ gs) h = absurd (omega (arith, h))

ended_laid : (r : Read) → Well r → (reading.at_end r).state.fault ≡ None → Laid (reading.at_end r).rows
ended_laid r well = by (is_none r.state.fault) refl (length r.groups == 0) refl (r.state.skipped == 0)
  where
    some_none : (f : Option RuleFault) → is_some f ≡ true → f ≡ None → ⊥
    some_none None h e = cc
    some_none (Some x) h e = cc

    by : (a : Bool) → is_none r.state.fault ≡ a → (b : Bool) → (length r.groups == 0) ≡ b → (c : Bool) → (if a && (not b || not c) then reading.failed fault.BadRule r else r).state.fault ≡ None → Laid (if a && (not b || not c) then reading.failed fault.BadRule r else r).rows
    by false e b f c h = absurd (none_some r.state.fault e h)
      where
        none_some : (f : Option RuleFault) → is_none f ≡ false → f ≡ None → ⊥
        none_some None e h = cc
        none_some (Some x) e h = cc
    by true e false f c h = cc
    by true e true f false h = cc
    by true e true f true h =
        elim well [
          | inl wrong ↦ absurd (some_none r.state.fault wrong h)
          | inr opened ↦ only_outer r.rows (onto [] r.groups) (length r.rows) (no_groups r.groups (eqb-true (length r.groups) 0 f)) opened
        ]

-- rules in which nothing is wrong
abbrev AllLaid : List RuleRows → Type 0
AllLaid rules = (i : ℕ) (r : RuleRows) → slice_get rules i ≡ Some r → Laid r.matcher

abbrev Right : RulesRead → Type 0
Right r = r.fault ≡ None → AllLaid r.rules

parts_right : (home : Home) (bytes : List ℕ) (ts : List Token) (c : Cut) (r : RulesRead) → AllLaid r.rules → Right (rule.parts_read home bytes ts c r)
unfolding rule.parts_read
parts_right home bytes ts c r laid is i x h =
    let p = rule.part true home in
    let all = reading.all_read p bytes [] (rule.inside 0 c.matcher ts) reading.nothing_read in
    let m = rule.matcher_read home bytes ts c in
    let well = all_well p bytes [] (rule.inside 0 c.matcher ts) reading.nothing_read refl (inr (outer empty no_rows)) in
    let own : RuleRows = record { matcher = m.rows; transcriber = (rule.transcriber_read home bytes ts c m).rows } in
    let sound : Laid m.rows = ended_laid all well (first_none m.state.fault (rule.transcriber_read home bytes ts c m).state.fault is) in
    elim (get_parts r.rules (own ∷ []) i x h) [
      | inl a ↦ laid i x a
      | inr b ↦ at own sound b.0 x b.1
    ]
  where
    first_none : (f g : Option RuleFault) → rule.or_else f g ≡ None → f ≡ None
    first_none None g e = refl
    first_none (Some x) g e = cc

    at : (own : RuleRows) → Laid own.matcher → (k : ℕ) (x : RuleRows) → slice_get (own ∷ []) k ≡ Some x → Laid x.matcher
    at own sound zero x h = let same : own ≡ x = cc in subst (λ (y : RuleRows). Laid y.matcher) same sound
    at own sound (suc k) x h = cc

read_by_right : (o : Option Cut) (home : Home) (bytes : List ℕ) (ts : List Token) (r : RulesRead) → AllLaid r.rules → Right (rule.read_by o home bytes ts r)
read_by_right None home bytes ts r laid = λ is. cc
read_by_right (Some c) home bytes ts r laid =
    let more = rule.parts_read home bytes ts c r in
    cond_both (is_none more.fault && not (rule.ends_rule ts c.transcriber)) (rule.failed fault.BadRule more) more Right (λ _ is. cc) (λ _. parts_right home bytes ts c r laid)

rule_right : (home : Home) (bytes : List ℕ) (ts : List Token) (r : RulesRead) → AllLaid r.rules → Right (rule.rule_read home bytes ts r)
unfolding rule.rule_read
rule_right home bytes ts r laid = read_by_right (rule.cut ts) home bytes ts r laid

next_right : (home : Home) (bytes : List ℕ) (ts : List Token) (at : ℕ) (r : RulesRead) → Right r → Right (rule.next_read home bytes ts at r)
next_right home bytes ts at r right =
    cond_both (rule.has_ended ts at r) r (rule.rule_read home bytes (drop at ts) r) Right (λ _. right)
    (λ going. rule_right home bytes (drop at ts) r (right (none_of r.fault (nat_le (length ts) at) going)))
  where
    none_of : (f : Option RuleFault) (b : Bool) → (is_some f || b) ≡ false → f ≡ None
    none_of None b e = refl
    none_of (Some x) b e = cc

from_right : (home : Home) (bytes : List ℕ) (ts : List Token) (n at : ℕ) (r : RulesRead) → Right r → Right (rule.rules_from home bytes ts n at r)
from_right home bytes ts zero at r right = right
from_right home bytes ts (suc n) at r right = from_right home bytes ts n (rule.next_at ts at r) (rule.next_read home bytes ts at r) (next_right home bytes ts at r right)

-- what is read without a fault lays out grammars
pub matchers_laid : (home : Home) (bytes : List ℕ) (ts : List Token) → (rule.rules_read home bytes ts).fault ≡ None → (i : ℕ) (r : RuleRows) → slice_get (rule.rules_read home bytes ts).rules i ≡ Some r → (m : Matcher) × LaysOut r.matcher 0 m (length r.matcher)
matchers_laid home bytes ts =
    let r = rule.rules_from home bytes ts (length ts) 0 rule.no_rules in
    let right : Right r = from_right home bytes ts (length ts) 0 rule.no_rules (λ is i x h. cc) in
    cond_both ((length r.rules == 0) && is_none r.fault) (rule.failed fault.BadRule r) r Right (λ _ is. cc) (λ _. right)

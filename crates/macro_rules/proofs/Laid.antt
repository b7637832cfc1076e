-- The matchers of rules that were read are laid out: no position leads behind their end.
use Rattle.std.proofs.Common.{◌≡◌, ℕ, zero, suc, ◌+◌, ◌-◌, ◌<◌, ◌≤◌, ◌||◌, Bool, true, false, not, Option, Some, None, List, [], ◌∷◌, ◌++◌, length, slice_get, slice_set, refl, sym, subst, inl, inr, arith, cond, IfSome, is_none, is_some, length-append, length-set}
use Rattle.std.specs.Prelude.{◌⊎◌, ◌&&◌, ◌==◌, nat_le, nat_lt, drop, if◌then◌else◌}
use Rattle.std.proofs.lemmas.Bool.{cond_both, leb-false}
use Rattle.dm_base.specs.declared.edition.Edition.{Edition}
use Rattle.item_tree.specs.declared.lexer.lexeme.Delimiter.TheVariants.{Parenthesis, Brace}
use Rattle.item_tree.specs.declared.lexer.word.Word.TheVariants as word
use Rattle.macro_rules.specs.Extents.{kind_at, is_mark}
use Rattle.macro_rules.specs.Laws.{AreLaidOut}
use Rattle.macro_rules.specs.Layouts.{LeadsWithin, IsLaidOut}
use Rattle.macro_rules.specs.Read.{Read}
use Rattle.macro_rules.specs.Readings as reading
use Rattle.macro_rules.specs.RuleRows.{RuleRows}
use Rattle.macro_rules.specs.Rules as rule
use Rattle.macro_rules.specs.RulesRead.{RulesRead}
use Rattle.macro_rules.specs.declared.reading.Opening.{Opening}
use Rattle.macro_rules.specs.FragmentNames.{kind_named}
use Rattle.item_tree.specs.Spans.{piece}
use Rattle.macro_rules.specs.declared.reading.RuleFault.TheVariants as fault
use Rattle.macro_rules.specs.declared.reading.Tail.{Tail}
use Rattle.macro_rules.specs.declared.reading.dollars.Part.{Part}
use Rattle.macro_rules.specs.declared.row.Row.{Row}
use Rattle.macro_rules.specs.declared.row.Row.TheVariants as row
use Rattle.macro_rules.specs.declared.rules.Cut.{Cut}
use Rattle.macro_rules.specs.declared.token.FragmentKind.{FragmentKind}
use Rattle.macro_rules.specs.declared.token.Home.{Home}
use Rattle.macro_rules.specs.declared.token.Token.{Token}
use Rattle.macro_rules.specs.declared.token.TokenKind.{TokenKind}
use Rattle.macro_rules.specs.declared.token.TokenKind.TheVariants as kind

if_more : (n m : ℕ) (o : Option ℕ) → n ≤ m → IfSome o (λ s. s ≤ n) → IfSome o (λ s. s ≤ m)
if_more n m None low h = tt
if_more n m (Some s) low h = omega (arith, low, h)

leads_more : (n m : ℕ) (x : Row) → n ≤ m → LeadsWithin n x → LeadsWithin m x
leads_more n m (row.Token t) low h = tt
leads_more n m (row.Variable v) low h = tt
leads_more n m (row.Capture c) low h = tt
leads_more n m (row.Begin b) low h = if_more n m b.behind low h
leads_more n m row.Iteration low h = tt
leads_more n m (row.End other) low h = if_more n m other low h
leads_more n m (row.Separator t start) low h = omega (arith, low, h)

-- of two lists one has it
pub get_parts : {X : Type 0} (xs ys : List X) (i : ℕ) (y : X) → slice_get (xs ++ ys) i ≡ Some y → (slice_get xs i ≡ Some y) ⊎ ((k : ℕ) × (slice_get ys k ≡ Some y))
get_parts [] ys i y h = inr (i, h)
get_parts (x ∷ xs) ys zero y h = inl h
get_parts (x ∷ xs) ys (suc i) y h = get_parts xs ys i y h

get_set : {X : Type 0} (xs : List X) (at i : ℕ) (x y : X) → slice_get (slice_set xs at x) i ≡ Some y → (slice_get xs i ≡ Some y) ⊎ (x ≡ y)
get_set [] at i x y h = inl h
get_set (z ∷ xs) zero zero x y h = inr cc
get_set (z ∷ xs) zero (suc i) x y h = inl h
get_set (z ∷ xs) (suc at) zero x y h = inl h
get_set (z ∷ xs) (suc at) (suc i) x y h = get_set xs at i x y h

laid_more : (rows more : List Row) → IsLaidOut rows → ((k : ℕ) (x : Row) → slice_get more k ≡ Some x → LeadsWithin (length rows + length more) x) → IsLaidOut (rows ++ more)
laid_more rows more laid new i x h =
    let len : length (rows ++ more) ≡ length rows + length more = length-append rows more in
    subst (λ (n : ℕ). LeadsWithin n x) (sym len) (elim (get_parts rows more i x h) [
      | inl a ↦ leads_more (length rows) (length rows + length more) x (omega arith) (laid i x a)
      | inr b ↦ new b.0 x b.1
    ])

laid_push : (rows : List Row) (x : Row) → IsLaidOut rows → LeadsWithin (length rows + 1) x → IsLaidOut (rows ++ x ∷ [])
laid_push rows x laid own = laid_more rows (x ∷ []) laid (λ k y h. at k y h)
  where
    at : (k : ℕ) (y : Row) → slice_get (x ∷ []) k ≡ Some y → LeadsWithin (length rows + length (x ∷ [])) y
    at zero y h = let is : x ≡ y = cc in subst (λ (z : Row). LeadsWithin (length rows + 1) z) is own
    at (suc k) y h = cc

laid_set : (rows : List Row) (at : ℕ) (x : Row) → IsLaidOut rows → LeadsWithin (length rows) x → IsLaidOut (slice_set rows at x)
laid_set rows at x laid own i y h =
    let len : length (slice_set rows at x) ≡ length rows = length-set rows at x in
    subst (λ (n : ℕ). LeadsWithin n y) (sym len) (elim (get_set rows at i x y h) [
      | inl a ↦ laid i y a
      | inr b ↦ subst (λ (z : Row). LeadsWithin (length rows) z) b own
    ])

abbrev Laid : Read → Type 0
Laid r = IsLaidOut r.rows

added_laid : (p : Row) (n : ℕ) (r : Read) → ((k : ℕ) → LeadsWithin k p) → Laid r → Laid (reading.added p n r)
added_laid p n r free laid = laid_push r.rows p laid (free (length r.rows + 1))

opened_laid : (is_matcher : Bool) (r : Read) → Laid r → Laid (reading.repetition_opened is_matcher r)
opened_laid is_matcher r laid =
    let begin = reading.begin_of (length r.rows) None r.state.within in
    laid_push (r.rows ++ begin ∷ []) row.Iteration (laid_push r.rows begin laid tt) tt

ends_within : (begin n : ℕ) (t : Tail) (separator : Token) → begin < n → (k : ℕ) (x : Row) → slice_get (reading.ends begin t separator n) k ≡ Some x → LeadsWithin (n + length (reading.ends begin t separator n)) x
ends_within begin n t separator low =
    cond_both t.separated (row.End (Some (n + 2)) ∷ row.Separator separator (begin + 1) ∷ []) (if t.again then row.End (Some (begin + 1)) ∷ [] else row.End None ∷ []) (λ xs. (k : ℕ) (x : Row) → slice_get xs k ≡ Some x → LeadsWithin (n + length xs) x)
    (λ _. two)
    (λ _. cond_both t.again (row.End (Some (begin + 1)) ∷ []) (row.End None ∷ []) (λ xs. (k : ℕ) (x : Row) → slice_get xs k ≡ Some x → LeadsWithin (n + length xs) x) (λ _. one) (λ _. none))
  where
    two : (k : ℕ) (x : Row) → slice_get (row.End (Some (n + 2)) ∷ row.Separator separator (begin + 1) ∷ []) k ≡ Some x → LeadsWithin (n + 2) x
    two zero x h = let is : row.End (Some (n + 2)) ≡ x = cc in subst (λ (z : Row). LeadsWithin (n + 2) z) is (omega arith)
    two (suc zero) x h = let is : row.Separator separator (begin + 1) ≡ x = cc in subst (λ (z : Row). LeadsWithin (n + 2) z) is (omega (arith, low))
    two (suc (suc k)) x h = cc

    one : (k : ℕ) (x : Row) → slice_get (row.End (Some (begin + 1)) ∷ []) k ≡ Some x → LeadsWithin (n + 1) x
    one zero x h = let is : row.End (Some (begin + 1)) ≡ x = cc in subst (λ (z : Row). LeadsWithin (n + 1) z) is (omega (arith, low))
    one (suc k) x h = cc

    none : (k : ℕ) (x : Row) → slice_get (row.End None ∷ []) k ≡ Some x → LeadsWithin (n + 1) x
    none zero x h = let is : row.End None ≡ x = cc in subst (λ (z : Row). LeadsWithin (n + 1) z) is tt
    none (suc k) x h = cc

skips_within : (b : Bool) (n : ℕ) → IfSome (cond b (Some n) None) (λ s. s ≤ n)
skips_within true n = omega arith
skips_within false n = tt

not_either : (a b : Bool) → (a || b) ≡ false → a ≡ false
not_either true b h = cc
not_either false b h = refl

closed_laid : (begin : ℕ) (o : Opening) (t : Tail) (separator : Token) (r : Read) → Laid r → Laid (reading.repetition_closed begin o t separator r)
closed_laid begin o t separator r laid =
    cond_both (nat_le (length r.rows) begin || (r.state.bare && not t.separated)) (reading.failed fault.EmptyRepetition r) (reading.left_group o t r.state.bare (reading.end_noted begin (length r.rows) t o.within (reading.ended begin t separator r))) Laid
    (λ _. laid)
    (λ e.
    let low : begin < length r.rows = leb-false (length r.rows) begin (not_either (nat_le (length r.rows) begin) (r.state.bare && not t.separated) e) in
    let more = reading.ended begin t separator r in
    laid_set more.rows begin (reading.begin_of (length r.rows) (if t.skips then Some (length more.rows) else None) o.within)
    (laid_more r.rows (reading.ends begin t separator (length r.rows)) laid (ends_within begin (length r.rows) t separator low)) (skips_within t.skips (length more.rows)))

closed_with_laid : (o : Option Tail) (begin : ℕ) (g : Opening) (token : Token) (ts : List Token) (r : Read) → Laid r → Laid (reading.closed_with o begin g token ts r)
closed_with_laid None begin g token ts r laid = laid
closed_with_laid (Some t) begin g token ts r laid = closed_laid begin g t (reading.token_at ts 1 token) r laid

closed_by_laid : (o : Option ℕ) (g : Opening) (token : Token) (ts : List Token) (r : Read) → Laid r → Laid (reading.closed_by o g token ts r)
closed_by_laid None g token ts r laid = added_laid (row.Token token) 0 r (λ k. tt) laid
closed_by_laid (Some begin) g token ts r laid = closed_with_laid (reading.tail ts) begin g token ts r laid

closed_group_laid : (o : Option Opening) (token : Token) (ts : List Token) (r : Read) → Laid r → Laid (reading.closed_group o token ts r)
closed_group_laid None token ts r laid = laid
closed_group_laid (Some g) token ts r laid = closed_by_laid g.repetition g token ts (reading.without_last r) laid

variable_with_laid : (bytes : List ℕ) (name : Token) (o : Option FragmentKind) (r : Read) → Laid r → Laid (reading.variable_with bytes name o r)
variable_with_laid bytes name None r laid = laid
variable_with_laid bytes name (Some k) r laid =
    cond_both (is_some (reading.found bytes r.rows name)) (reading.failed fault.TwoOfAName r) (reading.variable_added name k r) Laid (λ _. laid)
    (λ _. laid_push r.rows (reading.variable_of name k r.state.within) laid tt)

captured_laid : (token : Token) (o : Option ℕ) (r : Read) → Laid r → Laid (reading.captured token o r)
captured_laid token None r laid = added_laid (row.Token token) 0 r (λ k. tt) laid
captured_laid token (Some v) r laid = added_laid (row.Capture v) 1 r (λ k. tt) laid

variable_laid : (bytes : List ℕ) (edition : Edition) (name : Token) (ts : List Token) (r : Read) → Laid r → Laid (reading.variable_read bytes edition name ts r)
variable_laid bytes edition name ts r laid =
    let o = kind_named edition (piece bytes (reading.token_at ts 3 name).span) in
    cond_both (is_mark 58 (kind_at ts 2)) (reading.variable_with bytes name o r) (reading.failed fault.NoKind r) Laid (λ _. variable_with_laid bytes name o r laid) (λ _. laid)

name_laid : (p : Part) (bytes : List ℕ) (matcher : List Row) (token name : Token) (ts : List Token) (r : Read) → Laid r → Laid (reading.name_read p bytes matcher token name ts r)
name_laid p bytes matcher token name ts r laid =
    cond_both p.is_matcher (reading.variable_read bytes p.home.edition name ts r) (reading.captured token (reading.found bytes matcher name) r) Laid
    (λ _. variable_laid bytes p.home.edition name ts r laid) (λ _. captured_laid token (reading.found bytes matcher name) r laid)

-- what becomes of a `$`, by what stands behind it
dollar_laid : (k : TokenKind) (p : Part) (bytes : List ℕ) (matcher : List Row) (token : Token) (ts : List Token) (r : Read) → Laid r → Laid (reading.dollar_before k p bytes matcher token ts r)
dollar_laid (kind.Open Parenthesis) p bytes matcher token ts r laid = opened_laid p.is_matcher r laid
dollar_laid (kind.Open Brace) p bytes matcher token ts r laid = laid
dollar_laid (kind.Word word.Crate) p bytes matcher token ts r laid = added_laid (reading.dollar_crate p.home.krate (reading.token_at ts 1 token)) 1 r (λ k. tt) laid
dollar_laid (kind.Word w) p bytes matcher token ts r laid = name_laid p bytes matcher token (reading.token_at ts 1 token) ts r laid
dollar_laid (kind.Keyword w) p bytes matcher token ts r laid = name_laid p bytes matcher token (reading.token_at ts 1 token) ts r laid
dollar_laid (kind.Close d) p bytes matcher token ts r laid = added_laid (row.Token token) 0 r (λ k. tt) laid
dollar_laid k p bytes matcher token ts r laid = other_laid k token (length ts) r laid
  where
    other_laid : (k : TokenKind) (token : Token) (len : ℕ) (r : Read) → Laid r → Laid (reading.other_read k token len r)
    other_laid k token len r laid =
        cond_both (is_mark 36 k) (reading.failed fault.Unsupported r) (if nat_lt 1 len then reading.failed fault.BadRule r else reading.added (row.Token token) 0 r) Laid (λ _. laid)
        (λ _. cond_both (nat_lt 1 len) (reading.failed fault.BadRule r) (reading.added (row.Token token) 0 r) Laid (λ _. laid) (λ _. added_laid (row.Token token) 0 r (λ k. tt) laid))

dollar_read_laid : (p : Part) (bytes : List ℕ) (matcher : List Row) (token : Token) (ts : List Token) (r : Read) → Laid r → Laid (reading.dollar_read p bytes matcher token ts r)
unfolding reading.dollar_read
dollar_read_laid p bytes matcher token ts r laid = dollar_laid (kind_at ts 1) p bytes matcher token ts r laid

hash_laid : (is_matcher : Bool) (token : Token) (ts : List Token) (r : Read) → Laid r → Laid (reading.hash_read is_matcher token ts r)
hash_laid is_matcher token ts r laid =
    cond_both (is_matcher && not (reading.doc_len ts == 0)) (reading.skipping (reading.doc_len ts) r) (reading.added (row.Token token) 0 r) Laid (λ _. laid) (λ _. added_laid (row.Token token) 0 r (λ k. tt) laid)

plain_laid : (k : TokenKind) (p : Part) (bytes : List ℕ) (matcher : List Row) (token : Token) (ts : List Token) (r : Read) → Laid r
    → Laid (if is_mark 36 k then reading.dollar_read p bytes matcher token ts r else if is_mark 35 k then reading.hash_read p.is_matcher token ts r else reading.added (row.Token token) 0 r)
plain_laid k p bytes matcher token ts r laid =
    cond_both (is_mark 36 k) (reading.dollar_read p bytes matcher token ts r) (if is_mark 35 k then reading.hash_read p.is_matcher token ts r else reading.added (row.Token token) 0 r) Laid
    (λ _. dollar_read_laid p bytes matcher token ts r laid)
    (λ _. cond_both (is_mark 35 k) (reading.hash_read p.is_matcher token ts r) (reading.added (row.Token token) 0 r) Laid (λ _. hash_laid p.is_matcher token ts r laid) (λ _. added_laid (row.Token token) 0 r (λ k. tt) laid))

kind_laid : (k : TokenKind) (p : Part) (bytes : List ℕ) (matcher : List Row) (token : Token) (ts : List Token) (r : Read) → Laid r → Laid (reading.kind_read k p bytes matcher token ts r)
kind_laid (kind.Open d) p bytes matcher token ts r laid = laid_push r.rows (row.Token token) laid tt
kind_laid (kind.Close d) p bytes matcher token ts r laid = closed_group_laid (slice_get r.groups (length r.groups - 1)) token ts r laid
kind_laid k p bytes matcher token ts r laid = plain_laid k p bytes matcher token ts r laid

one_laid : (p : Part) (bytes : List ℕ) (matcher : List Row) (token : Token) (ts : List Token) (r : Read) → Laid r → Laid (reading.one_read p bytes matcher token ts r)
unfolding reading.one_read
one_laid p bytes matcher token ts r laid =
    cond_both (is_some r.state.fault) r (if not (r.state.skipped == 0) then reading.skipping (r.state.skipped - 1) r else reading.kind_read token.kind p bytes matcher token ts r) Laid (λ _. laid)
    (λ _. cond_both (not (r.state.skipped == 0)) (reading.skipping (r.state.skipped - 1) r) (reading.kind_read token.kind p bytes matcher token ts r) Laid (λ _. laid) (λ _. kind_laid token.kind p bytes matcher token ts r laid))

all_laid : (p : Part) (bytes : List ℕ) (matcher : List Row) (ts : List Token) (r : Read) → Laid r → Laid (reading.all_read p bytes matcher ts r)
all_laid p bytes matcher [] r laid = laid
all_laid p bytes matcher (t ∷ ts) r laid = all_laid p bytes matcher ts (reading.one_read p bytes matcher t (t ∷ ts) r) (one_laid p bytes matcher t (t ∷ ts) r laid)

nothing_laid : Laid reading.nothing_read
nothing_laid = λ i r h. cc

rows_laid : (p : Part) (bytes : List ℕ) (matcher : List Row) (ts : List Token) → Laid (reading.rows_read p bytes matcher ts)
rows_laid p bytes matcher ts =
    let r = reading.all_read p bytes matcher ts reading.nothing_read in
    let laid = all_laid p bytes matcher ts reading.nothing_read nothing_laid in
    cond_both (is_none r.state.fault && (not (length r.groups == 0) || not (r.state.skipped == 0))) (reading.failed fault.BadRule r) r Laid (λ _. laid) (λ _. laid)

abbrev AllLaid : RulesRead → Type 0
AllLaid r = AreLaidOut r.rules

parts_laid : (home : Home) (bytes : List ℕ) (ts : List Token) (c : Cut) (r : RulesRead) → AllLaid r → AllLaid (rule.parts_read home bytes ts c r)
unfolding rule.parts_read
parts_laid home bytes ts c r laid i x h =
    let m = rule.matcher_read home bytes ts c in
    let own : RuleRows = record { matcher = m.rows; transcriber = (rule.transcriber_read home bytes ts c m).rows } in
    elim (get_parts r.rules (own ∷ []) i x h) [
      | inl a ↦ laid i x a
      | inr b ↦ at own (rows_laid (rule.part true home) bytes [] (rule.inside 0 c.matcher ts)) b.0 x b.1
    ]
  where
    at : (own : RuleRows) → IsLaidOut own.matcher → (k : ℕ) (x : RuleRows) → slice_get (own ∷ []) k ≡ Some x → IsLaidOut x.matcher
    at own well zero x h = let is : own ≡ x = cc in subst (λ (y : RuleRows). IsLaidOut y.matcher) is well
    at own well (suc k) x h = cc

read_by_laid : (o : Option Cut) (home : Home) (bytes : List ℕ) (ts : List Token) (r : RulesRead) → AllLaid r → AllLaid (rule.read_by o home bytes ts r)
read_by_laid None home bytes ts r laid = laid
read_by_laid (Some c) home bytes ts r laid =
    let more = rule.parts_read home bytes ts c r in
    let well = parts_laid home bytes ts c r laid in
    cond_both (is_none more.fault && not (rule.ends_rule ts c.transcriber)) (rule.failed fault.BadRule more) more AllLaid (λ _. well) (λ _. well)

rule_laid : (home : Home) (bytes : List ℕ) (ts : List Token) (r : RulesRead) → AllLaid r → AllLaid (rule.rule_read home bytes ts r)
unfolding rule.rule_read
rule_laid home bytes ts r laid = read_by_laid (rule.cut ts) home bytes ts r laid

next_laid : (home : Home) (bytes : List ℕ) (ts : List Token) (at : ℕ) (r : RulesRead) → AllLaid r → AllLaid (rule.next_read home bytes ts at r)
next_laid home bytes ts at r laid =
    cond_both (rule.has_ended ts at r) r (rule.rule_read home bytes (drop at ts) r) AllLaid (λ _. laid) (λ _. rule_laid home bytes (drop at ts) r laid)

from_laid : (home : Home) (bytes : List ℕ) (ts : List Token) (n at : ℕ) (r : RulesRead) → AllLaid r → AllLaid (rule.rules_from home bytes ts n at r)
from_laid home bytes ts zero at r laid = laid
from_laid home bytes ts (suc n) at r laid = from_laid home bytes ts n (rule.next_at ts at r) (rule.next_read home bytes ts at r) (next_laid home bytes ts at r laid)

-- rules that are read are laid out
pub rules_laid : (home : Home) (bytes : List ℕ) (ts : List Token) → AreLaidOut (rule.rules_read home bytes ts).rules
rules_laid home bytes ts =
    let r = rule.rules_from home bytes ts (length ts) 0 rule.no_rules in
    let laid = from_laid home bytes ts (length ts) 0 rule.no_rules (λ i x h. cc) in
    cond_both ((length r.rules == 0) && is_none r.fault) (rule.failed fault.BadRule r) r AllLaid (λ _. laid) (λ _. laid)

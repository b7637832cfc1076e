-- Of rows that are laid out no step leads behind their end, so a segment is not long.
use Rattle.std.proofs.Common.{◌≡◌, ◌∙◌, ℕ, zero, suc, ◌+◌, ◌≤◌, Bool, true, false, Option, Some, None, List, [], ◌∷◌, length, drop, slice_get, nat_eq, refl, ap, sym, subst, arith, cond, IfSome, length-drop}
use Rattle.std.proofs.lemmas.Bool.{eqb-false, eq-eqb}
use Rattle.std.proofs.lemmas.List.Sums.{sum_by-cons}
use Rattle.std.proofs.lemmas.Option.{slice_get_within}
use Rattle.macro_rules.proofs.Linked.{Link, first, behind, Segment}
use Rattle.macro_rules.proofs.Numbers.{get_drop, once, yes_is}
use Rattle.macro_rules.specs.Layouts.{IsLaidOut}
use Rattle.macro_rules.specs.Runs.{Steps, goes_on, turns, takes, reads}
use Rattle.macro_rules.specs.Threads.{standing, ways_from, behind_token, variable_len}
use Rattle.macro_rules.specs.Tokens.{same}
use Rattle.macro_rules.specs.declared.matching.Thread.{Thread}
use Rattle.macro_rules.specs.declared.row.Row.{Row}
use Rattle.macro_rules.specs.declared.row.Row.TheVariants as row
use Rattle.macro_rules.specs.declared.token.Token.{Token}

-- how many of some threads stand at the positions up to one
abbrev tally : ℕ → List Thread → ℕ
tally zero xs = standing 0 xs
tally (suc n) xs = standing (suc n) xs + tally n xs

tally_zero : (xs : List Thread) → tally 0 xs ≡ standing 0 xs
tally_zero xs = refl

tally_suc : (n : ℕ) (xs : List Thread) → tally (suc n) xs ≡ standing (suc n) xs + tally n xs
tally_suc n xs = refl

standing_cons : (r : ℕ) (t : Thread) (xs : List Thread) → standing r (t ∷ xs) ≡ once (nat_eq t.row r) + standing r xs
standing_cons r t xs = sum_by-cons (λ (v : Thread). once (nat_eq v.row r)) t xs

tally_grows : (n : ℕ) (t : Thread) (xs : List Thread) → tally n xs ≤ tally n (t ∷ xs)
tally_grows zero t xs = omega (arith, standing_cons 0 t xs, tally_zero xs, tally_zero (t ∷ xs))
tally_grows (suc n) t xs = omega (arith, standing_cons (suc n) t xs, tally_grows n t xs, tally_suc n xs, tally_suc n (t ∷ xs))

tally_in : (n : ℕ) (t : Thread) (xs : List Thread) → t.row ≤ n → 1 + tally n xs ≤ tally n (t ∷ xs)
tally_in zero t xs low =
    omega (arith, standing_cons 0 t xs, tally_zero xs, tally_zero (t ∷ xs), yes_is (nat_eq t.row 0) (eq-eqb t.row 0 (omega (arith, low))))
tally_in (suc n) t xs low = by (nat_eq t.row (suc n)) refl (tally_in n t xs)
  where
    by : (b : Bool) → nat_eq t.row (suc n) ≡ b → (t.row ≤ n → 1 + tally n xs ≤ tally n (t ∷ xs)) → 1 + tally (suc n) xs ≤ tally (suc n) (t ∷ xs)
    by true e further =
        omega (arith, standing_cons (suc n) t xs, tally_suc n xs, tally_suc n (t ∷ xs), yes_is (nat_eq t.row (suc n)) e, tally_grows n t xs)
    by false e further = omega (arith, standing_cons (suc n) t xs, tally_suc n xs, tally_suc n (t ∷ xs), further (omega (arith, low, eqb-false t.row (suc n) e)))

tally_len : (n : ℕ) (xs : List Thread) → ((i : ℕ) (t : Thread) → slice_get xs i ≡ Some t → t.row ≤ n) → length xs ≤ tally n xs
tally_len n [] low = omega arith
tally_len n (t ∷ xs) low = omega (arith, tally_in n t xs (low 0 t refl), tally_len n xs (λ i u h. low (suc i) u h))

tally_few : (n : ℕ) (xs : List Thread) → ((r : ℕ) → standing r xs ≤ 2) → tally n xs ≤ n + n + 2
tally_few zero xs few = omega (arith, few 0, tally_zero xs)
tally_few (suc n) xs few = omega (arith, few (suc n), tally_suc n xs, tally_few n xs few)

if_some : (b : Bool) (k s : ℕ) → cond b (Some k) None ≡ Some s → k ≡ s
if_some true k s h = cc
if_some false k s h = cc

module _ (rows : List Row) (laid : IsLaidOut rows) where
  next_within : (r s : ℕ) (o : Option Row) → slice_get rows r ≡ o → (ways_from o r).next ≡ Some s → s ≤ length rows
  next_within r s None e h = cc
  next_within r s (Some (row.Token t)) e h = cc
  next_within r s (Some (row.Variable v)) e h = cc
  next_within r s (Some (row.Capture c)) e h = cc
  next_within r s (Some (row.Begin b)) e h = let is : r + 1 ≡ s = cc in omega (arith, is, slice_get_within rows r (row.Begin b) e)
  next_within r s (Some row.Iteration) e h = let is : r + 1 ≡ s = cc in omega (arith, is, slice_get_within rows r row.Iteration e)
  next_within r s (Some (row.End other)) e h = let is : r + 1 ≡ s = cc in omega (arith, is, slice_get_within rows r (row.End other) e)
  next_within r s (Some (row.Separator t start)) e h = cc

  other_within : (r s : ℕ) (o : Option Row) → slice_get rows r ≡ o → (ways_from o r).other ≡ Some s → s ≤ length rows
  other_within r s None e h = cc
  other_within r s (Some (row.Token t)) e h = cc
  other_within r s (Some (row.Variable v)) e h = cc
  other_within r s (Some (row.Capture c)) e h = cc
  other_within r s (Some (row.Begin b)) e h = subst (λ (o : Option ℕ). IfSome o (λ k. k ≤ length rows)) h (laid r (row.Begin b) e)
  other_within r s (Some row.Iteration) e h = cc
  other_within r s (Some (row.End other)) e h = subst (λ (o : Option ℕ). IfSome o (λ k. k ≤ length rows)) h (laid r (row.End other) e)
  other_within r s (Some (row.Separator t start)) e h = cc

  token_within : (bytes : List ℕ) (x : Token) (r s : ℕ) (o : Option Row) → slice_get rows r ≡ o → behind_token bytes x o r ≡ Some s → s ≤ length rows
  token_within bytes x r s None e h = cc
  token_within bytes x r s (Some (row.Token t)) e h = omega (arith, if_some (same bytes t x) (r + 1) s h, slice_get_within rows r (row.Token t) e)
  token_within bytes x r s (Some (row.Variable v)) e h = cc
  token_within bytes x r s (Some (row.Capture c)) e h = cc
  token_within bytes x r s (Some (row.Begin b)) e h = cc
  token_within bytes x r s (Some row.Iteration) e h = cc
  token_within bytes x r s (Some (row.End other)) e h = cc
  token_within bytes x r s (Some (row.Separator t start)) e h = omega (arith, if_some (same bytes t x) start s h, laid r (row.Separator t start) e)

  variable_within : (ts : List Token) (r n : ℕ) (o : Option Row) → slice_get rows r ≡ o → variable_len o ts ≡ Some n → r + 1 ≤ length rows
  variable_within ts r n None e h = cc
  variable_within ts r n (Some (row.Token t)) e h = cc
  variable_within ts r n (Some (row.Variable v)) e h = omega (arith, slice_get_within rows r (row.Variable v) e)
  variable_within ts r n (Some (row.Capture c)) e h = cc
  variable_within ts r n (Some (row.Begin b)) e h = cc
  variable_within ts r n (Some row.Iteration) e h = cc
  variable_within ts r n (Some (row.End other)) e h = cc
  variable_within ts r n (Some (row.Separator t start)) e h = cc

  pub step_within : (bytes : List ℕ) (ts : List Token) (r p s q : ℕ) → Steps bytes rows ts r p s q → s ≤ length rows
  step_within bytes ts r p s q (goes_on h) = next_within r s (slice_get rows r) refl h
  step_within bytes ts r p s q (turns h) = other_within r s (slice_get rows r) refl h
  step_within bytes ts r p s q (takes {x = x} here h) = token_within bytes x r s (slice_get rows r) refl h
  step_within bytes ts r p s q (reads {n = n} here begins h) = variable_within (drop p ts) r n (slice_get rows r) refl h

  row_within : (bytes : List ℕ) (ts : List Token) (log : List Thread) (i : ℕ) (t : Thread) → Link bytes rows ts log i t → t.row ≤ length rows
  row_within bytes ts log i t (first zeroth is) = omega (arith, ap (λ (u : Thread). u.row) is)
  row_within bytes ts log i t (behind {u} past less there step) = step_within bytes ts u.row u.place t.row t.place step

  pub segment_within : (bytes : List ℕ) (ts : List Token) (from place : ℕ) (log : List Thread) → Segment bytes rows ts log from place → length log ≤ from + (length rows + length rows + 2)
  segment_within bytes ts from place log segment =
      let n = length rows in
      let low : (i : ℕ) (t : Thread) → slice_get (drop from log) i ≡ Some t → t.row ≤ n = (λ i t h. row_within bytes ts log (from + i) t (segment.linked (from + i) t (sym (get_drop from log i) ∙ h))) in
      omega (arith, tally_len n (drop from log) low, tally_few n (drop from log) segment.few, length-drop from log)

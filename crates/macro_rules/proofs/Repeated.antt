-- A repetition is written as often as it is captured.
use Rattle.std.proofs.Common.{◌≡◌, ◌∙◌, ℕ, zero, suc, ◌+◌, ◌-◌, ◌<◌, Bool, true, false, Option, Some, None, Result, Ok, Err, List, [], ◌∷◌, ◌++◌, length, take, drop, slice_get, nat_eq, refl, ap, sym, subst, inl, inr, arith, cond}
use Rattle.std.specs.Prelude.{nat_lt, ◌&&◌, ◌==◌}
use Rattle.std.proofs.lemmas.Bool.{cond_both, eqb-true, eqb-false, ltb-true, ltb-false}
use Rattle.macro_rules.proofs.Laid.{get_parts}
use Rattle.macro_rules.specs.Repeats.{HasIterations, Turns, stay, begin, go_on, end, written_in}
use Rattle.macro_rules.specs.Writings as spec
use Rattle.macro_rules.specs.Writings.{agree, common, gathered, leader_of_added, leader_found, leader_added, level, opened_by, started, skipped_to, ended_at, again, left_level, without_last, step, step_at, nothing_written}
use Rattle.macro_rules.specs.Written.{Written}
use Rattle.macro_rules.specs.declared.row.Row.{Row}
use Rattle.macro_rules.specs.declared.row.Row.TheVariants as row
use Rattle.macro_rules.specs.declared.token.FragmentKind.{FragmentKind}
use Rattle.macro_rules.specs.declared.token.Token.{Token}
use Rattle.macro_rules.specs.declared.visits.Visit.{Visit}
use Rattle.macro_rules.specs.declared.writing.Leader.{Leader}
use Rattle.macro_rules.specs.declared.writing.Level.{Level}
use Rattle.macro_rules.specs.declared.writing.WriteFault.{WriteFault}
use Rattle.macro_rules.specs.declared.writing.WriteFault.TheVariants as fault

-- the leaders that agree
all_agree : (n : ℕ) (ls : List Leader) → agree n ls ≡ true → HasIterations ls n
all_agree n [] yes_all i leader h = cc
all_agree n (x ∷ ls) yes_all i leader h = by (nat_eq x.count n) refl yes_all i leader h (all_agree n ls)
  where
    by : (b : Bool) → nat_eq x.count n ≡ b → (b && agree n ls) ≡ true → (i : ℕ) (leader : Leader) → slice_get (x ∷ ls) i ≡ Some leader → (agree n ls ≡ true → HasIterations ls n) → leader.count ≡ n
    by true e rest zero leader h further = let is : x ≡ leader = cc in ap (λ (l : Leader). l.count) (sym is) ∙ eqb-true x.count n e
    by true e rest (suc i) leader h further = further rest i leader h
    by false e rest i leader h further = cc

common_has : (ls : List Leader) (n : ℕ) → common ls ≡ Ok n → HasIterations ls n
common_has [] n h = cc
common_has (x ∷ ls) n h = by (agree x.count ls) refl h
  where
    by : (b : Bool) → agree x.count ls ≡ b → cond b (Ok x.count) (Err fault.Uneven) ≡ Ok n → HasIterations (x ∷ ls) n
    by false e g = cc
    by true e g = at
      where
        at : (i : ℕ) (leader : Leader) → slice_get (x ∷ ls) i ≡ Some leader → leader.count ≡ n
        at zero leader k = let is : x ≡ leader = cc in let own : x.count ≡ n = cc in ap (λ (l : Leader). l.count) (sym is) ∙ own
        at (suc i) leader k = let own : x.count ≡ n = cc in all_agree x.count ls e i leader k ∙ own

-- what leads is found without a change of what is open
found_levels : (matcher : List Row) (table : List (List Visit)) (from : ℕ) (o : Option ℕ) (w : Written) → (leader_found matcher table from o w).levels ≡ w.levels
found_levels matcher table from None w = refl
found_levels matcher table from (Some r) w =
    let l = spec.leader matcher table w.current r in
    cond_both (spec.leads w.leaders from l.repetition) w (record w { leaders = w.leaders ++ l ∷ [] }) (λ (v : Written). v.levels ≡ w.levels) (λ _. refl) (λ _. refl)

row_levels : (matcher : List Row) (table : List (List Visit)) (from : ℕ) (r : Row) (w : Written) → (leader_of_added matcher table from r w).levels ≡ w.levels
row_levels matcher table from (row.Token t) w = refl
row_levels matcher table from (row.Variable v) w = refl
row_levels matcher table from (row.Capture c) w = found_levels matcher table from (spec.find_leader matcher w.current (spec.outside (slice_get matcher c))) w
row_levels matcher table from (row.Begin b) w = refl
row_levels matcher table from row.Iteration w = refl
row_levels matcher table from (row.End other) w = refl
row_levels matcher table from (row.Separator t start) w = refl

gathered_levels : (matcher : List Row) (table : List (List Visit)) (from : ℕ) (rows : List Row) (w : Written) → (gathered matcher table from rows w).levels ≡ w.levels
gathered_levels matcher table from [] w = refl
gathered_levels matcher table from (r ∷ rows) w = gathered_levels matcher table from rows (leader_of_added matcher table from r w) ∙ row_levels matcher table from r w

-- one begins
opened_turns : (at from : ℕ) (behind : Option ℕ) (w v : Written) → v.levels ≡ w.levels → (o : Result ℕ WriteFault) → common (drop from v.leaders) ≡ o → Turns w (opened_by o at behind from v)
opened_turns at from behind w v same (Err f) e = stay same
opened_turns at from behind w v same (Ok count) e =
    cond_both (count == 0) (skipped_to behind from v) (started at from count v) (Turns w)
    (λ _. skip behind)
    (λ some. begin (level at 0 count from) refl (omega (arith, eqb-false count 0 some)) (common_has (drop from v.leaders) count e) (ap (λ (ls : List Level). ls ++ level at 0 count from ∷ []) same))
  where
    skip : (o : Option ℕ) → Turns w (skipped_to o from v)
    skip None = stay same
    skip (Some next) = stay same

-- the last of a list
pub last_parts : {X : Type 0} (xs : List X) (x : X) → slice_get xs (length xs - 1) ≡ Some x → xs ≡ take (length xs - 1) xs ++ x ∷ []
last_parts [] x h = cc
last_parts (y ∷ []) x h = let is : y ≡ x = cc in ap (λ z. z ∷ []) is
last_parts (y ∷ z ∷ xs) x h =
    let n : suc (suc (length xs)) - 1 ≡ suc (suc (length xs) - 1) = omega arith in
    let e : slice_get (z ∷ xs) (suc (length xs) - 1) ≡ Some x = ap (slice_get (y ∷ z ∷ xs)) (sym n) ∙ h in
    ap (λ l. y ∷ l) (last_parts (z ∷ xs) x e) ∙ ap (λ k. take k (y ∷ z ∷ xs) ++ x ∷ []) (sym n)

none_parts : {X : Type 0} (xs : List X) → slice_get xs (length xs - 1) ≡ None → take (length xs - 1) xs ≡ xs
none_parts [] h = refl
none_parts (y ∷ []) h = cc
none_parts (y ∷ z ∷ xs) h =
    let n : suc (suc (length xs)) - 1 ≡ suc (suc (length xs) - 1) = omega arith in
    ap (λ k. take k (y ∷ z ∷ xs)) n ∙ ap (λ l. y ∷ l) (none_parts (z ∷ xs) (ap (slice_get (y ∷ z ∷ xs)) (sym n) ∙ h))

-- each repetition that is open is at one of its iterations
abbrev Open : List Level → Type 0
Open ls = (i : ℕ) (l : Level) → slice_get ls i ≡ Some l → l.index < l.count

-- an iteration ends
ended_turns : (at : ℕ) (separated : Bool) (w : Written) → Open w.levels → (o : Option Level) → slice_get w.levels (length w.levels - 1) ≡ o → Turns w (ended_at o at separated (without_last w))
ended_turns at separated w open_all None e = stay (none_parts w.levels e)
ended_turns at separated w open_all (Some l) e =
    let parts = last_parts w.levels l e in
    let less : l.index < l.count = open_all (length w.levels - 1) l e in
    cond_both (nat_lt 1 (l.count - l.index)) (again l at separated (without_last w)) (left_level l at separated (without_last w)) (Turns w)
    (λ more. go_on (take (length w.levels - 1) w.levels) l parts (omega (arith, ltb-true 1 (l.count - l.index) more)) refl)
    (λ last. end (take (length w.levels - 1) w.levels) l parts (omega (arith, less, ltb-false 1 (l.count - l.index) last)) refl)

capture_levels : (k : FragmentKind) (input : List Token) (o : Option Visit) (w : Written) → (spec.visit_written k input o w).levels ≡ w.levels
capture_levels k input None w = refl
capture_levels k input (Some v) w = refl

captured_levels : (o : Option Row) (table : List (List Visit)) (input : List Token) (r : ℕ) (w : Written) → (spec.capture_written o table input r w).levels ≡ w.levels
captured_levels None table input r w = refl
captured_levels (Some (row.Token t)) table input r w = refl
captured_levels (Some (row.Variable v)) table input r w = capture_levels v.kind input (spec.capture_of table w.current r v.within) w
captured_levels (Some (row.Capture c)) table input r w = refl
captured_levels (Some (row.Begin b)) table input r w = refl
captured_levels (Some row.Iteration) table input r w = refl
captured_levels (Some (row.End other)) table input r w = refl
captured_levels (Some (row.Separator t start)) table input r w = refl

module _ (rows matcher : List Row) (table : List (List Visit)) (input : List Token) where
  turns_at : (o : Option Row) (w : Written) → Open w.levels → Turns w (step_at o rows matcher table input w)
  turns_at None w open_all = stay refl
  turns_at (Some (row.Token t)) w open_all = stay refl
  turns_at (Some (row.Variable v)) w open_all = stay refl
  turns_at (Some (row.Capture c)) w open_all = stay (captured_levels (slice_get matcher c) table input c w)
  turns_at (Some (row.Begin b)) w open_all =
      let from = length w.leaders in
      let v = gathered matcher table from (spec.between w.at b.end rows) w in
      opened_turns w.at from b.behind w v (gathered_levels matcher table from (spec.between w.at b.end rows) w) (common (drop from v.leaders)) refl
  turns_at (Some row.Iteration) w open_all = stay refl
  turns_at (Some (row.End other)) w open_all =
      ended_turns w.at (spec.is_separator (slice_get rows (w.at + 1))) w open_all (slice_get w.levels (length w.levels - 1)) refl
  turns_at (Some (row.Separator t start)) w open_all = stay refl

  step_turns : (w : Written) → Open w.levels → Turns w (step rows matcher table input w)
  unfolding step
  step_turns w open_all = turns_at (slice_get rows w.at) w open_all

  open_push : (ls : List Level) (l : Level) → Open ls → l.index < l.count → Open (ls ++ l ∷ [])
  open_push ls l open_all own i x h =
      elim (get_parts ls (l ∷ []) i x h) [
        | inl a ↦ open_all i x a
        | inr b ↦ at b.0 x b.1
      ]
    where
      at : (k : ℕ) (x : Level) → slice_get (l ∷ []) k ≡ Some x → x.index < x.count
      at zero x h = let is : l ≡ x = cc in subst (λ (y : Level). y.index < y.count) is own
      at (suc k) x h = cc

  open_before : (all ls : List Level) (l : Level) → all ≡ ls ++ l ∷ [] → Open all → Open ls
  open_before all ls l parts open_all i x h = open_all i x (ap (λ (k : List Level). slice_get k i) parts ∙ get_left ls (l ∷ []) i x h)
    where
      get_left : (xs ys : List Level) (i : ℕ) (x : Level) → slice_get xs i ≡ Some x → slice_get (xs ++ ys) i ≡ Some x
      get_left [] ys i x h = cc
      get_left (z ∷ xs) ys zero x h = h
      get_left (z ∷ xs) ys (suc i) x h = get_left xs ys i x h

  open_behind : (w v : Written) → Open w.levels → Turns w v → Open v.levels
  open_behind w v open_all (stay same) = subst Open (sym same) open_all
  open_behind w v open_all (begin l first some has parts) = subst Open (sym parts) (open_push w.levels l open_all (omega (arith, first, some)))
  open_behind w v open_all (go_on ls l parts less next) = subst Open (sym next) (open_push ls (level l.begin (l.index + 1) l.count l.leaders) (open_before w.levels ls l parts open_all) less)
  open_behind w v open_all (end ls l parts last rest) = subst Open (sym rest) (open_before w.levels ls l parts open_all)

  all_open : (n : ℕ) → Open (written_in rows matcher table input n).levels
  all_open zero = λ i l h. cc
  all_open (suc n) = let w = written_in rows matcher table input n in open_behind w (step rows matcher table input w) (all_open n) (step_turns w (all_open n))

  pub repeats : (n : ℕ) → Turns (written_in rows matcher table input n) (written_in rows matcher table input (suc n))
  repeats n = step_turns (written_in rows matcher table input n) (all_open n)

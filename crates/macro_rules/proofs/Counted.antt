-- One step of each recursion over a number of steps.
use Rattle.std.proofs.Common.{◌≡◌, ◌∙◌, ℕ, zero, suc, ◌-◌, ◌≢◌, false, Option, Some, List, slice_get, refl, ap, sym, arith, cond}
use Rattle.std.specs.Prelude.{is_some}
use Rattle.macro_rules.specs.RulesRead.{RulesRead}
use Rattle.macro_rules.specs.Rules.{rules_from, next_at, next_read}
use Rattle.macro_rules.specs.Written.{Written}
use Rattle.macro_rules.specs.Writings.{outside, iteration, up_from, found_from, step, is_done, steps}
use Rattle.macro_rules.specs.declared.row.Row.{Row}
use Rattle.macro_rules.specs.declared.token.Home.{Home}
use Rattle.macro_rules.specs.declared.token.Token.{Token}
use Rattle.macro_rules.specs.declared.visits.Visit.{Visit}

pub rules_step : (home : Home) (bytes : List ℕ) (ts : List Token) (n at next : ℕ) (r behind : RulesRead) → n ≢ 0 → next ≡ next_at ts at r → behind ≡ next_read home bytes ts at r
    → rules_from home bytes ts (n - 1) next behind ≡ rules_from home bytes ts n at r
rules_step home bytes ts zero at next r behind some next_is behind_is = absurd (some refl)
rules_step home bytes ts (suc n) at next r behind some next_is behind_is =
    let less : suc n - 1 ≡ n = omega arith in
    ap (λ k. rules_from home bytes ts k next behind) less
    ∙ (ap (λ k. rules_from home bytes ts n k behind) next_is ∙ ap (λ x. rules_from home bytes ts n (next_at ts at r) x) behind_is)

pub found_step : (matcher : List Row) (current : List (Option ℕ)) (n : ℕ) (found around : Option ℕ) (begin : ℕ) → n ≢ 0 → around ≡ Some begin → is_some (iteration current (Some begin)) ≡ false
    → found_from matcher current (n - 1) (Some begin) (outside (slice_get matcher begin)) ≡ found_from matcher current n found around
found_step matcher current zero found around begin some is not_led = absurd (some refl)
found_step matcher current (suc n) found around begin some is not_led =
    let less : suc n - 1 ≡ n = omega arith in
    let further = found_from matcher current n (Some begin) (outside (slice_get matcher begin)) in
    ap (λ k. found_from matcher current k (Some begin) (outside (slice_get matcher begin))) less
    ∙ sym (ap (λ o. up_from matcher current found o (found_from matcher current n)) is ∙ ap (λ b. cond b found further) not_led)

pub steps_step : (rows matcher : List Row) (table : List (List Visit)) (input : List Token) (n : ℕ) (w next : Written) → n ≢ 0 → is_done rows w ≡ false → next ≡ step rows matcher table input w
    → steps rows matcher table input (n - 1) next ≡ steps rows matcher table input n w
steps_step rows matcher table input zero w next some going is = absurd (some refl)
steps_step rows matcher table input (suc n) w next some going is =
    let less : suc n - 1 ≡ n = omega arith in
    ap (λ k. steps rows matcher table input k next) less
    ∙ (ap (λ x. steps rows matcher table input n x) is
    ∙ sym (ap (λ b. cond b w (steps rows matcher table input n (step rows matcher table input w))) going))

-- One step of each recursion over a number of steps.
use Rattle.std.proofs.Common.{◌≡◌, ◌∙◌, ℕ, zero, suc, ◌+◌, ◌-◌, ◌<◌, ◌≢◌, List, length, slice_get, refl, ap, sym, arith, cond}
use Rattle.std.proofs.lemmas.Bool.{lt-ltb}
use Rattle.macro_rules.specs.Threads.{closed, followed, taken, gone, token_way}
use Rattle.macro_rules.specs.Walks.{advanced, after, by_step, walked}
use Rattle.macro_rules.specs.declared.matching.Thread.{Thread}
use Rattle.macro_rules.specs.declared.row.Row.{Row}
use Rattle.macro_rules.specs.declared.token.Token.{Token}
use Rattle.macro_rules.specs.declared.walk.Step.{Step}
use Rattle.macro_rules.specs.declared.walk.Step.TheVariants.{GoesOn}

pub closed_step : (rows : List Row) (from place n at : ℕ) (log next : List Thread) → n ≢ 0 → at < length log → next ≡ followed rows from at place (slice_get log at) log
    → closed rows from place (n - 1) (at + 1) next ≡ closed rows from place n at log
closed_step rows from place zero at log next some within is = absurd (some refl)
closed_step rows from place (suc n) at log next some within is =
    let less : suc n - 1 ≡ n = omega arith in
    ap (λ k. closed rows from place k (at + 1) next) less
    ∙ (ap (λ l. closed rows from place n (at + 1) l) is
    ∙ sym (ap (λ b. cond b (closed rows from place n (at + 1) (followed rows from at place (slice_get log at) log)) log) (lt-ltb at (length log) within)))

pub taken_step : (bytes : List ℕ) (rows : List Row) (x : Token) (behind place at : ℕ) (log next : List Thread) → at < behind → next ≡ gone behind (token_way bytes rows x (slice_get log at)) place at log
    → taken bytes rows x behind place (behind - (at + 1)) (at + 1) next ≡ taken bytes rows x behind place (behind - at) at log
taken_step bytes rows x behind place at log next within is =
    let more : behind - at ≡ suc (behind - (at + 1)) = omega arith in
    ap (λ l. taken bytes rows x behind place (behind - (at + 1)) (at + 1) l) is ∙ sym (ap (λ k. taken bytes rows x behind place k at log) more)

pub walked_step : (bytes : List ℕ) (rows : List Row) (ts : List Token) (steps n from place next end : ℕ) (log mid behind : List Thread) (s : Step) → n ≢ 0 → mid ≡ closed rows from place steps from log
    → s ≡ (advanced bytes rows ts from place mid).step → s ≡ GoesOn next end → behind ≡ (advanced bytes rows ts from place mid).log
    → walked bytes rows ts steps (n - 1) next end behind ≡ walked bytes rows ts steps n from place log
walked_step bytes rows ts steps zero from place next end log mid behind s some mid_is step_is goes behind_is = absurd (some refl)
walked_step bytes rows ts steps (suc n) from place next end log mid behind s some mid_is step_is goes behind_is =
    let less : suc n - 1 ≡ n = omega arith in
    ap (λ k. walked bytes rows ts steps k next end behind) less
    ∙ (ap (λ l. walked bytes rows ts steps n next end l) behind_is
    ∙ (sym (ap (λ x. by_step x (advanced bytes rows ts from place mid).log (walked bytes rows ts steps n)) (sym step_is ∙ goes))
    ∙ ap (λ l. after (advanced bytes rows ts from place l) (walked bytes rows ts steps n)) mid_is))

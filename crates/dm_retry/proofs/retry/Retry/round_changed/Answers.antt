use Rattle.std.proofs.Common.{subst, sym}
use Rattle.dm_retry.specs.Retries.{NoneDue, Retries}
use Rattle.dm_retry.proofs.FixedLemmas.{fixed-after}
use Rattle.dm_retry.proofs.retry.Retry.round_changed.Goals as goal

pub returns-in_err-answer-clause-none : goal.returns-in_err-answer-clause-none
returns-in_err-answer-clause-none c = λ none.
    let refused = c.in_err-answer.ensures.none (subst (λ (r : Retries). NoneDue r.state) (sym c.self.view_is) none) in cc

pub returns-clause-none : goal.returns-clause-none
returns-clause-none c = λ none. c.in_ok-answer.ensures.none (subst (λ (r : Retries). NoneDue r.state) (sym c.self.view_is) none)

pub returns-clause-fixed : goal.returns-clause-fixed
returns-clause-fixed c is = fixed-after c.self.inside.imports c.try_due.new.imports c.in_ok-answer.answer c.in_ok-answer.ensures.state c.in_ok-answer.ensures.answer c.rests.ensures is

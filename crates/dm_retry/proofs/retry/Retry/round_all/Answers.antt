use Rattle.dm_retry.proofs.FixedLemmas.{fixed-after}
use Rattle.dm_retry.proofs.retry.Retry.round_all.Goals as goal

pub returns-clause-fixed : goal.returns-clause-fixed
returns-clause-fixed c is = fixed-after c.self.inside.imports c.try_all.new.imports c.in_ok-answer.answer c.in_ok-answer.ensures.state c.in_ok-answer.ensures.answer c.rests.ensures is

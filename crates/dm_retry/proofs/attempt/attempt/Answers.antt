use Rattle.std.proofs.Common.{sym}
use Rattle.dm_retry.proofs.TryLemmas.{to_push-some}
use Rattle.dm_retry.proofs.attempt.attempt.Goals as goal

pub push_named-requires-clause-some : goal.push_named-requires-clause-some
push_named-requires-clause-some c = to_push-some c.args.world.now c.args.pending.now c.in-Some.items (sym c.in-Some.ensures.value)

use Rattle.dm_retry.specs.Rounds.{name_at}
use Rattle.dm_retry.proofs.ListedLemmas.{listing-awoken}
use Rattle.dm_retry.proofs.pendings.Pendings.wake_by.Goals as goal

pub invariant_of-self : goal.invariant_of-self
invariant_of-self c = listing-awoken c.self.inside.listing c.self.inside.worklist c.wake_by.new.self (name_at c.self.inside.worklist c.args.k) c.wake_by.ensures c.self.invariant

use Rattle.dm_retry.proofs.ListedLemmas.{listing-awoken}
use Rattle.dm_retry.proofs.pendings.Pendings.wake.Goals as goal

pub invariant_of-self : goal.invariant_of-self
invariant_of-self c = listing-awoken c.self.inside.listing c.self.inside.worklist c.wake.new.self c.args.name.now c.wake.ensures c.self.invariant

use Rattle.std.proofs.Common.{true}
use Rattle.dm_retry.proofs.ListedLemmas.{listing-marked_at}
use Rattle.dm_retry.proofs.pendings.Pendings.put_back.Goals as goal

pub invariant_of-self : goal.invariant_of-self
invariant_of-self c = listing-marked_at c.self.inside.listing c.self.inside.worklist c.put_back.new.self c.args.k true c.put_back.ensures c.self.invariant

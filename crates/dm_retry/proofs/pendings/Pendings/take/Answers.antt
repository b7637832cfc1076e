use Rattle.std.proofs.Common.{List, false, subst}
use Rattle.dm_retry.specs.Listed.{IsListing}
use Rattle.dm_retry.specs.Rounds.{Pending}
use Rattle.dm_retry.proofs.ListedLemmas.{listing-marked_at}
use Rattle.dm_retry.proofs.pendings.Pendings.take.Goals as goal

pub invariant_of-self-2 : goal.invariant_of-self-2
invariant_of-self-2 c =
    listing-marked_at c.make.new.self c.self.inside.worklist c.take.new.self c.args.k false c.in_ok-take.ensures.ok
    (subst (λ (l : List Pending). IsListing c.make.new.self l) c.as_slice.ensures c.make.ensures)

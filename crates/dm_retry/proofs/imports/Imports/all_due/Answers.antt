use Rattle.std.proofs.Common.{List, subst, sym}
use Rattle.dm_retry.specs.Rounds.{Pending}
use Rattle.dm_retry.specs.Settled.{IsSettled}
use Rattle.dm_retry.proofs.StartLemmas.{starts}
use Rattle.dm_retry.proofs.imports.Imports.all_due.Goals as goal

pub invariant_of-result : goal.invariant_of-result
invariant_of-result c =
    subst (λ (l : List Pending). IsSettled (record { world = c.args.world; globs = c.args.globs; pending = l })) (sym c.all_dirty.ensures)
    (starts c.args.world c.args.globs c.args.pendings.items c.requires)

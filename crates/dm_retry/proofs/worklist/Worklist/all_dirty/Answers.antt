use Rattle.std.proofs.Common.{subst, sym, true≢false}
use Rattle.dm_retry.proofs.KeptLemmas.{all-marked}
use Rattle.dm_retry.specs.Unresolved.{AllDirty}
use Rattle.dm_retry.proofs.worklist.Worklist.all_dirty.Goals as goal

pub invariant_of-result : goal.invariant_of-result
invariant_of-result c =
    record {
      kept = λ h. absurd (true≢false (sym h));
      before = λ h. subst (AllDirty) (sym c.mark_all.ensures) (all-marked c.args.imports.items);
    }

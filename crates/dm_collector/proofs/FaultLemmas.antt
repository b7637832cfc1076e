-- Why crates are not collected, from why a step on the way there fails.
use Rattle.std.proofs.Common.{◌≡◌, Err, Ok, Result, subst, sym}
use Rattle.std.specs.Prelude.{IfErr}
use Rattle.std.specs.Result.{IsErrAnd}
use Rattle.dm_collector.specs.declared.collect_fault.CollectFault.{CollectFault}

-- what a `?` passes on
pub passed : {A : Type 0} (r : Result A CollectFault) (f : CollectFault) (P : CollectFault → Type 0) → IsErrAnd r (λ e. e ≡ f) → P f → IfErr r P
passed (Ok x) f P same is = tt
passed (Err e) f P same is = subst P (sym same) is

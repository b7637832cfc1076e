-- What holds where a builder call fails.
use Rattle.std.proofs.Common.{◌≡◌, Result, Ok, Err, Option, None, Some}
use Rattle.std.specs.Result.{IsErrAnd}
use Rattle.dm_maps.specs.declared.build_fault.BuildFault.{BuildFault}
use Rattle.dm_maps.specs.declared.build_fault.BuildFault.TheVariants.{OutOfMemory}
use Rattle.dm_maps.specs.Faults.{Answers}

-- out of memory, where there is no other fault
pub out_of_memory : {A B : Type 0} (fault : Option BuildFault) (x : A) (r : Result B BuildFault) → Answers fault (Ok x) → IsErrAnd r (λ f. f ≡ OutOfMemory) → Answers fault r
out_of_memory None x (Ok y) known e = tt
out_of_memory None x (Err f) known e = e
out_of_memory (Some f) x r known e = cc

-- no fault, whatever is answered
pub no_fault : {A B : Type 0} (fault : Option BuildFault) (x : A) (y : B) → Answers fault (Ok x) → Answers fault (Ok y)
no_fault None x y known = tt
no_fault (Some f) x y known = cc

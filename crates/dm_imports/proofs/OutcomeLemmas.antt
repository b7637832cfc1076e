-- What is said of the outcome of a call.
use Rattle.std.specs.Prelude.{IfOk, OnOk}
use Rattle.std.specs.declared.result.Result.{Result}
use Rattle.std.specs.declared.result.Result.TheVariants.{Ok, Err}

pub on-ok-then : {T E P Q : Type 0} (r : Result T E) → (P → Q) → OnOk r P → OnOk r Q
on-ok-then (Ok x) f p = f p
on-ok-then (Err e) f p = tt

pub if-ok-then : {T E : Type 0} (P Q : T → Type 0) (r : Result T E) → ((x : T) → P x → Q x) → IfOk r P → IfOk r Q
if-ok-then P Q (Ok x) f p = f x p
if-ok-then P Q (Err e) f p = tt

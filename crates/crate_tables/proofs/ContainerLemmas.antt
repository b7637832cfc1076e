-- An implementation more.
use Rattle.std.proofs.Common.{◌≡◌, ◌++◌, [], List, Option, None, Some, refl}
use Rattle.std.specs.List.{cons_option}

pub option-first : {X : Type 0} (o : Option X) (xs : List X) → cons_option o [] ++ xs ≡ cons_option o xs
option-first None xs = refl
option-first (Some x) xs = refl

-- What is taken back leaves what was there.
use Rattle.std.proofs.Common.{◌≡◌, ◌∙◌, ◌++◌, ◌∷◌, [], ◌-◌, List, length, take, ap}
use Rattle.dm_maps.proofs.EntryLemmas.{take-push}

-- an element that was added, without the last
pub without-last : {A : Type 0} (xs ys zs : List A) (x : A) → ys ≡ xs ++ x ∷ [] → zs ≡ take (length ys - 1) ys → zs ≡ xs
without-last xs ys zs x p z = z ∙ ap (λ l. take (length l - 1) l) p ∙ take-push xs x

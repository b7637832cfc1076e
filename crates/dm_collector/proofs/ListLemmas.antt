-- A list to which an element is added, or not.
use Rattle.std.proofs.Common.{◌≡◌, ◌++◌, Bool, true, false, List, [], ◌∷◌, cond, refl, subst, sym}
use Rattle.std.proofs.lemmas.List.Elements.{All-push}
use Rattle.std.specs.List.{All}

-- what holds of all, and of the element where it is added, holds of all then
pub added-all : {X : Type 0} (P : X → Type 0) (xs : List X) (x : X) (b : Bool) (ys : List X) → ys ≡ cond b xs (xs ++ x ∷ []) → All P xs → (b ≡ false → P x) → All P ys
added-all P xs x true ys is all own = subst (All P) (sym is) all
added-all P xs x false ys is all own = subst (All P) (sym is) (All-push P xs x all (own refl))

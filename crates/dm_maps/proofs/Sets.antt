-- Folds over lists that are made of lists.
use Rattle.std.proofs.Common.{◌≡◌, List, [], ◌∷◌, refl, ◌∙◌}
use Rattle.std.specs.List.{fold, flat_map}
use Rattle.std.proofs.lemmas.List.Sums.{fold-append}
use Rattle.std.proofs.lemmas.List.Folds.{fold-map}

pub fold-flat_map : {A B C : Type 0} (f : B → A → B) (h : C → List A) (a : B) (xs : List C) → fold f a (flat_map h xs) ≡ fold (λ b x. fold f b (h x)) a xs
fold-flat_map f h a [] = refl
fold-flat_map f h a (x ∷ xs) = fold-append f a (h x) (flat_map h xs) ∙ fold-flat_map f h (fold f a (h x)) xs

pub ruleset parts = (fold-append, fold-flat_map, fold-map)

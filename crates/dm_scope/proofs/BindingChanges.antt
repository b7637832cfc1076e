-- One binding changed in its place.
use Rattle.std.proofs.Common.{◌≡◌, Bool, true, false, cond, List, [], ◌∷◌, None, Some, refl, ap}
use Rattle.std.specs.Map.{lookup, set_value}
use Rattle.dm_base.specs.Names.{Name, same_name}
use Rattle.dm_base.specs.declared.per_ns.Item.{Item}
use Rattle.dm_scope.specs.Changes.{change_item}

module _ {D I : Type 0} (f : Item D I → Item D I) (n : Name) where
  pub change_item-present : (es : List (Name × Item D I)) (x : Item D I) → lookup (same_name n) es ≡ Some x → set_value (same_name n) es (f x) ≡ change_item f n es
  change_item-present [] x h = refl
  change_item-present (e ∷ es) x h = by (same_name n e.0) h (change_item-present es x)
    where
      by : (b : Bool) → cond b (Some e.1) (lookup (same_name n) es) ≡ Some x → (lookup (same_name n) es ≡ Some x → set_value (same_name n) es (f x) ≡ change_item f n es)
          → cond b ((e.0, f x) ∷ es) (e ∷ set_value (same_name n) es (f x)) ≡ cond b ((e.0, f e.1) ∷ es) (e ∷ change_item f n es)
      by true h rest = let same : x ≡ e.1 = cc in ap (λ y. (e.0, f y) ∷ es) same
      by false h rest = ap (λ l. e ∷ l) (rest h)

  pub change_item-absent : (es : List (Name × Item D I)) → lookup (same_name n) es ≡ None → change_item f n es ≡ es
  change_item-absent [] h = refl
  change_item-absent (e ∷ es) h = by (same_name n e.0) h (change_item-absent es)
    where
      by : (b : Bool) → cond b (Some e.1) (lookup (same_name n) es) ≡ None → (lookup (same_name n) es ≡ None → change_item f n es ≡ es) → cond b ((e.0, f e.1) ∷ es) (e ∷ change_item f n es) ≡ e ∷ es
      by true h rest = cc
      by false h rest = ap (λ l. e ∷ l) (rest h)

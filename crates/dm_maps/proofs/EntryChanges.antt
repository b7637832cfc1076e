-- An entry of a list, changed by a call that may fail.
use Rattle.std.proofs.Common.{◌≡◌, ◌∙◌, ap, sym, false, length, ℕ, List, Option, Some, slice_get, set, Result, nat_lt}
use Rattle.std.specs.Option.{option_map_or}
use Rattle.std.specs.Result.{OnOk}
use Rattle.std.proofs.lemmas.Bool.{ltb-false}
use Rattle.std.proofs.lemmas.Option.{slice_get_past}
use Rattle.std.proofs.lemmas.Result.{on_ok_weaker}

module _ {X : Type 0} (xs : List X) (k : ℕ) (f : X → X) where
  -- the list, with f of its entry of number k
  abbrev entry_with : Option X → List X
  entry_with o = option_map_or (λ x. set xs k (f x)) o xs

  -- there is none of that number
  pub unchanged : false ≡ nat_lt k (length xs) → xs ≡ entry_with (slice_get xs k)
  unchanged none = sym (ap entry_with (slice_get_past xs k (ltb-false k (length xs) (sym none))))

  -- the entry x became y
  pub entry-set : (x y : X) → slice_get xs k ≡ Some x → y ≡ f x → set xs k y ≡ entry_with (slice_get xs k)
  entry-set x y there same = ap (set xs k) same ∙ sym (ap entry_with there)

  -- the same, of a call that may fail
  pub entry-changed : {T E : Type 0} (r : Result T E) (x y : X) → slice_get xs k ≡ Some x → OnOk r (y ≡ f x) → OnOk r (set xs k y ≡ entry_with (slice_get xs k))
  entry-changed r x y there h = on_ok_weaker r (entry-set x y there) h

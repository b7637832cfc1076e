-- Laws of tables.
use Rattle.std.proofs.Common.{◌≡◌, ℕ, zero, suc, List, [], ◌∷◌, Some, map, slice_get, refl, sym, ap}
use Rattle.indexmap.specs.IndexMap.{set_value_at}

-- what stands at a place, written there again, changes nothing
pub set_value_at-own : {K V : Type 0} (es : List (K × V)) (i : ℕ) (v : V) → slice_get (map (λ e. e.1) es) i ≡ Some v → set_value_at es i v ≡ es
set_value_at-own [] i v h = refl
set_value_at-own (e ∷ es) zero v h = let same : e.1 ≡ v = cc in ap (λ y. (e.0, y) ∷ es) (sym same)
set_value_at-own (e ∷ es) (suc i) v h = ap (λ l. e ∷ l) (set_value_at-own es i v h)

-- Tables of lists, with one more in a list.
use Rattle.std.proofs.Common.{◌≡◌, ℕ, Bool, true, false, List, true≢false, is_some, refl, Option, Some, None, [], ◌∷◌, ◌++◌, map, slice_get, position, sym, ap, ◌∙◌}
use Rattle.std.specs.Option.{option_map_or}
use Rattle.std.specs.Map.{lookup, keys_of}
use Rattle.indexmap.specs.IndexMap.{insert_entry, set_value_at}
use Rattle.indexmap.proofs.MapLemmas.{Found-position, insert_entry-first, insert_entry-absent, absent_from_lookup, some_index}

module _ {K X : Type 0} (eq : K → K → Bool) (es : List (K × List X)) (k : K) (x : X) where
  -- the key stands at its place
  pub listed-at : (i : ℕ) → position (eq k) (keys_of es) ≡ Some i → slice_get (map (λ e. e.1) es) i ≡ lookup (eq k) es
      → option_map_or (λ xs. set_value_at es i (xs ++ x ∷ [])) (slice_get (map (λ e. e.1) es) i) es ≡ insert_entry eq es k (option_map_or (λ xs. xs) (lookup (eq k) es) [] ++ x ∷ [])
  listed-at i p value =
      ap (λ o. option_map_or (λ xs. set_value_at es i (xs ++ x ∷ [])) o es) value
      ∙ by (lookup (eq k) es) (sym (ap is_some p) ∙ some_index (eq k) es)
    where
      by : (o : Option (List X)) → true ≡ is_some o → option_map_or (λ xs. set_value_at es i (xs ++ x ∷ [])) o es ≡ insert_entry eq es k (option_map_or (λ xs. xs) o [] ++ x ∷ [])
      by None h = absurd (true≢false h)
      by (Some xs) h = sym (insert_entry-first eq k (xs ++ x ∷ []) es i (Found-position (eq k) es i p).first)

  -- the key is not there yet
  pub listed-new : lookup (eq k) es ≡ None → insert_entry eq es k (option_map_or (λ xs. xs) (lookup (eq k) es) [] ++ x ∷ []) ≡ insert_entry eq es k (x ∷ [])
  listed-new none = ap (λ o. insert_entry eq es k (option_map_or (λ xs. xs) o [] ++ x ∷ [])) none

  pub listed-last : lookup (eq k) es ≡ None → insert_entry eq es k (option_map_or (λ xs. xs) (lookup (eq k) es) [] ++ x ∷ []) ≡ es ++ (k, x ∷ []) ∷ []
  listed-last none = listed-new none ∙ insert_entry-absent eq k (x ∷ []) es (absent_from_lookup (eq k) es none)

pub none-by : {X : Type 0} (o : Option X) → is_some o ≡ false → o ≡ None
none-by None g = refl
none-by (Some x) g = absurd (true≢false g)

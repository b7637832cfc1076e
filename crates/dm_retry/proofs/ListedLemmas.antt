-- The imports of a list stay, whatever becomes of its marks.
use Rattle.std.proofs.Common.{◌≡◌, ◌∙◌, ◌||◌, ℕ, zero, suc, Bool, true, false, List, [], ◌∷◌, ◌++◌, Option, None, Some, ap, refl, sym, map, slice_get, slice_set}
use Rattle.std.specs.Option.{option_map_or}
use Rattle.std.proofs.lemmas.List.Folds.{list_any-append}
use Rattle.dm_base.specs.Names.{Name}
use Rattle.dm_base.specs.declared.imports.ImportId.{ImportId}
use Rattle.dm_retry.specs.Known.{is_listed, same_leaf}
use Rattle.dm_retry.specs.Listed.{IsListing, WithImport}
use Rattle.dm_retry.specs.Rounds.{Pending, awoken, marked, marked_at}

or_false : (b : Bool) → (b || false) ≡ b
or_false true = refl
or_false false = refl

like : (is : Option (List ImportId)) (ps qs : List Pending) → ((i : ImportId) → is_listed qs i ≡ is_listed ps i) → IsListing is ps → IsListing is qs
like None ps qs same h = tt
like (Some is) ps qs same h = λ i. h i ∙ sym (same i)

set-listed : (ps : List Pending) (k : ℕ) (p : Pending) (d : Bool) → slice_get ps k ≡ Some p → (i : ImportId) → is_listed (slice_set ps k (marked d p)) i ≡ is_listed ps i
set-listed [] k p d at i = refl
set-listed (q ∷ ps) zero p d at i = let same : q ≡ p = cc in ap (λ (z : Pending). same_leaf i z.import || is_listed ps i) (sym same)
set-listed (q ∷ ps) (suc k) p d at i = ap (λ b. same_leaf i q.import || b) (set-listed ps k p d at i)

pub listing-marked_at : (is : Option (List ImportId)) (ps qs : List Pending) (k : ℕ) (d : Bool) → qs ≡ marked_at ps k d → IsListing is ps → IsListing is qs
listing-marked_at is ps qs k d marks = like is ps qs (λ i. ap (λ (l : List Pending). is_listed l i) marks ∙ by i (slice_get ps k) refl)
  where
    by : (i : ImportId) (o : Option Pending) → slice_get ps k ≡ o → is_listed (option_map_or (λ p. slice_set ps k (marked d p)) o ps) i ≡ is_listed ps i
    by i None at = refl
    by i (Some p) at = set-listed ps k p d at i

awoken-listed : (ps : List Pending) (n : Name) (i : ImportId) → is_listed (map (awoken n) ps) i ≡ is_listed ps i
awoken-listed [] n i = refl
awoken-listed (p ∷ ps) n i = ap (λ b. same_leaf i p.import || b) (awoken-listed ps n i)

pub listing-awoken : (is : Option (List ImportId)) (ps qs : List Pending) (n : Name) → qs ≡ map (awoken n) ps → IsListing is ps → IsListing is qs
listing-awoken is ps qs n marks = like is ps qs (λ i. ap (λ (l : List Pending). is_listed l i) marks ∙ awoken-listed ps n i)

pub listing-added : (was is : Option (List ImportId)) (ps qs : List Pending) (p : Pending) → qs ≡ ps ++ marked true p ∷ [] → IsListing was ps → WithImport p.import was is → IsListing is qs
listing-added was None ps qs p add h with_it = tt
listing-added None (Some is) ps qs p add h with_it = absurd with_it
listing-added (Some was) (Some is) ps qs p add h with_it = λ i.
    with_it i ∙ ap (λ b. b || same_leaf i p.import) (h i)
    ∙ ap (λ b. is_listed ps i || b) (sym (or_false (same_leaf i p.import)))
    ∙ sym (list_any-append (λ (q : Pending). same_leaf i q.import) ps (marked true p ∷ []))
    ∙ ap (λ (l : List Pending). is_listed l i) (sym add)

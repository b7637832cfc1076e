-- What is set for a crate one thing after another is what all of it set at once leaves.
use Rattle.std.proofs.Common.{◌≡◌, ◌∙◌, ℕ, true, false, true≢false, cond, not, nat_eq, nat_lt, List, [], ◌∷◌, Option, Some, None, length, Ok, refl, sym, ap, subst}
use Rattle.std.specs.Option.{option_map, option_map_or, option_or}
use Rattle.std.proofs.lemmas.Bool.{eq-eqb, lt-ltb}
use Rattle.std.proofs.lemmas.List.{length-map}
use Rattle.std.proofs.lemmas.Option.{slice_get-map, slice_get_within}
use Rattle.dm_maps.proofs.Ids.{Crate}
use Rattle.dm_def_map.specs.CrateData.{CrateData, fresh_data, with_setting, with_settings}
use Rattle.dm_def_map.specs.declared.crate_data.crate_setting.CrateSetting.{CrateSetting}
use Rattle.dm_def_map.specs.Maps.{Map}
use Rattle.dm_maps.specs.BlockLists.{AreNumbered}
use Rattle.dm_maps.specs.BuildCrateData.{TakesData, map_with_shared, with_shared, sharing, data_of, with_crate_settings, settings_fault}
use Rattle.dm_maps.specs.BuildMaps.{crate_fault}
use Rattle.dm_maps.specs.Faults.{Answers, first_fault, none_found}
use Rattle.dm_maps.specs.declared.build_fault.BuildFault.{BuildFault}
use Rattle.dm_maps.specs.World.{World, crate_map}
use Rattle.dm_maps.proofs.SharedMaps.{given-again}

-- something is set, by the count of a vector
pub not-none : (settings : List CrateSetting) (n : ℕ) → n ≡ length settings → nat_eq n 0 ≡ false → length settings ≡ 0 → ⊥
not-none settings n count some none = true≢false (sym (eq-eqb n 0 (count ∙ none)) ∙ some)

maps-again : (k : Crate) (d e : CrateData) (ms : List Map) → with_shared k e (with_shared k d ms) ≡ with_shared k e ms
maps-again k d e [] = refl
maps-again k d e (m ∷ ms) = (λ i. given-again k d e m i ∷ maps-again k d e ms i)

module _ (w : World) (k : Crate) where
  sharing-again : (d e : CrateData) → sharing (sharing w k d) k e ≡ sharing w k e
  sharing-again d e = (λ i. record w { crate_maps = maps-again k d e w.crate_maps i; block_maps = maps-again k d e w.block_maps i })

  -- a crate of a builder takes the data that its maps share
  pub takes-data : (m : Map) → AreNumbered w.crate_maps → crate_map w k ≡ Some m → TakesData w k
  takes-data m numbered own d =
      let number : nat_eq m.id.krate.0 k.0 ≡ true = eq-eqb m.id.krate.0 k.0 (numbered k.0 m own) in
      ap (λ o. option_map_or (λ (x : Map). x.shared) o fresh_data) (slice_get-map (map_with_shared k d) w.crate_maps k.0 ∙ ap (option_map (map_with_shared k d)) own)
      ∙ ap (λ b. (cond b (record m { shared = d }) m).shared) number

  -- it finds no fault
  pub crate-found : {A : Type 0} (m : Map) → crate_map w k ≡ Some m → (x : A) → Answers (crate_fault w k) (Ok x)
  crate-found m own x =
      let known : nat_lt k.0 (length w.crate_maps) ≡ true = lt-ltb k.0 (length w.crate_maps) (slice_get_within w.crate_maps k.0 m own) in
      let none : crate_fault w k ≡ None = ap (λ b. first_fault (record none_found { no_crate = not b })) known in
      subst (λ o. Answers o (Ok x)) (sym none) tt

  module _ (takes : TakesData w k) where
    after-sharing : (d : CrateData) (settings : List CrateSetting) → with_crate_settings (sharing w k d) k settings ≡ sharing w k (with_settings d settings)
    after-sharing d [] = refl
    after-sharing d (s ∷ settings) =
        ap (λ v. with_crate_settings v k settings) (ap (λ c. sharing (sharing w k d) k (with_setting c s)) (takes d) ∙ sharing-again d (with_setting d s))
        ∙ after-sharing (with_setting d s) settings

    pub all-at_once : (settings : List CrateSetting) → (length settings ≡ 0 → ⊥) → sharing w k (with_settings (data_of w k) settings) ≡ with_crate_settings w k settings
    all-at_once [] some = absurd (some refl)
    all-at_once (s ∷ settings) some = sym (after-sharing (with_setting (data_of w k) s) settings)

-- each call finds the fault of the first
same-fault : (w : World) (k : Crate) (d : CrateData) → crate_fault (sharing w k d) k ≡ crate_fault w k
same-fault w k d = ap (λ n. first_fault (record none_found { no_crate = not (nat_lt k.0 n) })) (length-map w.crate_maps (map_with_shared k d))

none-after : (k : Crate) (settings : List CrateSetting) (w : World) → crate_fault w k ≡ None → settings_fault w k settings ≡ None
none-after k [] w none = refl
none-after k (s ∷ settings) w none =
    let new = with_setting (data_of w k) s in
    ap (λ o. option_or o (settings_fault (sharing w k new) k settings)) none ∙ none-after k settings (sharing w k new) (same-fault w k new ∙ none)

pub first-tells : (w : World) (k : Crate) (settings : List CrateSetting) → (length settings ≡ 0 → ⊥) → crate_fault w k ≡ settings_fault w k settings
first-tells w k [] some = absurd (some refl)
first-tells w k (s ∷ settings) some = by (crate_fault w k) refl
  where
    new : World
    new = sharing w k (with_setting (data_of w k) s)

    by : (o : Option BuildFault) → crate_fault w k ≡ o → o ≡ option_or o (settings_fault new k settings)
    by None none = sym (none-after k settings new (same-fault w k (with_setting (data_of w k) s) ∙ none))
    by (Some fault) found = refl

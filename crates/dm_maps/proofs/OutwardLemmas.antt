-- Walks from a def map outwards.
use Rattle.std.proofs.Common.{◌≡◌, ◌<◌, ◌≤◌, ℕ, zero, suc, List, [], ◌∷◌, Option, Some, None, Bor, length, refl, sym, ap, subst, ◌∙◌, arith, IsSome}
use Rattle.std.specs.Option.{option_map, option_map_or, option_and_then}
use Rattle.std.proofs.lemmas.Bool.{ltb-true}
use Rattle.dm_maps.proofs.Ids.{BlockId, ModuleId}
use Rattle.dm_def_map.specs.Maps.{Map, module_at}
use Rattle.dm_maps.specs.Outwards.{container_of, next_outwards, outwards_within, maps_outwards, AsksMaps, IsHandedOut, MayAskMaps, MayAskNext}
use Rattle.dm_maps.specs.Trees.{IsWorld}
use Rattle.dm_maps.specs.World.{World, map_of}
use Rattle.dm_maps.proofs.AllLemmas.{some-is}
use Rattle.dm_maps.proofs.InOrder.{contained}
use Rattle.dm_maps.proofs.MapLemmas.{map-lists, map-own}
use Rattle.dm_maps.proofs.SoundLemmas.{placed-known}

abbrev none : Map → ModuleId → List (Map × ModuleId)
none Q q = []

-- a map is the first of those from it outwards
outwards-first : (w : World) (M : Map) (m : ModuleId) → (rest : List (Map × ModuleId)) × (maps_outwards w M m ≡ (M, m) ∷ rest)
outwards-first w M m = by (length w.places)
  where
    by : (n : ℕ) → (rest : List (Map × ModuleId)) × (outwards_within n w M m ≡ (M, m) ∷ rest)
    by zero = ([], refl)
    by (suc n) = (option_map_or (λ x. outwards_within n w x.0 x.1) (next_outwards w M) [], refl)

-- a callback answers about the first
pub asks-answered : {F T : Type 0} (w : World) (step : F → Bor Map → ModuleId → Option T → F → Type 0) (M : Bor Map) (m : ModuleId) (f g : F) (y : T) → step f M m (Some y) g → AsksMaps step (maps_outwards w M.now m) f (Some y) g
asks-answered w step M m f g y s = subst (λ xs. AsksMaps step xs f (Some y) g) (sym (outwards-first w M.now m).1) (Some y, g, (M, refl, s), (refl, refl))

-- it may be called with the first
pub may-first : {F T : Type 0} (w : World) (may : F → Bor Map → ModuleId → Type 0) (step : F → Bor Map → ModuleId → Option T → F → Type 0) (M : Bor Map) (m : ModuleId) (f : F) → MayAskMaps w may step (maps_outwards w M.now m) f → may f M m
may-first w may step M m f h = (subst (λ xs. MayAskMaps w may step xs f) (outwards-first w M.now m).1 h).0 M refl

module _ (w : World) (is : IsWorld w) where
  -- what contains the block of a module's map has a smaller number than the module
  smaller : (p q : ModuleId) (P : Map) → map_of w p ≡ Some P → container_of P ≡ Some q → q.0 < p.0
  smaller p q P e h = by P.id.block refl h
    where
      by : (b : Option BlockId) → P.id.block ≡ b → elim b as (λ x. Option ModuleId) [ None ↦ None | Some x ↦ P.parent ] ≡ Some q → q.0 < p.0
      by None i g = cc
      by (Some b) i g =
          let d = some-is (module_at P.modules p) (map-lists w is p P e) in
          let has = contained w is P (map-own w is p P e) p d.0 d.1 b i in
          let it : has.container ≡ q = cc in
          subst (λ (x : ModuleId). x.0 < p.0) it has.smaller

  -- what is said of the next one, if there is one
  same-next : (A B : Map → ModuleId → List (Map × ModuleId)) (P : Map) → ((Q : Map) (q : ModuleId) → container_of P ≡ Some q → map_of w q ≡ Some Q → A Q q ≡ B Q q)
      → option_map_or (λ x. A x.0 x.1) (next_outwards w P) [] ≡ option_map_or (λ x. B x.0 x.1) (next_outwards w P) []
  same-next A B P h = by (container_of P) refl
    where
      at : (q : ModuleId) → container_of P ≡ Some q → (o : Option Map) → map_of w q ≡ o
          → option_map_or (λ (x : Map × ModuleId). A x.0 x.1) (option_map (λ (Q : Map). (Q, q)) o) [] ≡ option_map_or (λ (x : Map × ModuleId). B x.0 x.1) (option_map (λ (Q : Map). (Q, q)) o) []
      at q i None e = refl
      at q i (Some Q) e = h Q q i e

      by : (o : Option ModuleId) → container_of P ≡ o
          → option_map_or (λ (x : Map × ModuleId). A x.0 x.1) (option_and_then (λ q. option_map (λ (Q : Map). (Q, q)) (map_of w q)) o) [] ≡ option_map_or (λ (x : Map × ModuleId). B x.0 x.1) (option_and_then (λ q. option_map (λ (Q : Map). (Q, q)) (map_of w q)) o) []
      by None i = refl
      by (Some q) i = at q i (map_of w q) refl

  no-next : (P : Map) → option_map_or (λ (x : Map × ModuleId). none x.0 x.1) (next_outwards w P) [] ≡ []
  no-next P = by (next_outwards w P)
    where
      by : (o : Option (Map × ModuleId)) → option_map_or (λ (x : Map × ModuleId). none x.0 x.1) o [] ≡ []
      by None = refl
      by (Some x) = refl

  -- a step more shows nothing more
  stable : (n : ℕ) (P : Map) (p : ModuleId) → map_of w p ≡ Some P → p.0 ≤ n → outwards_within n w P p ≡ outwards_within (suc n) w P p
  stable zero P p e h =
      ap (λ xs. (P, p) ∷ xs) (sym (no-next P) ∙ same-next none (outwards_within zero w) P (λ Q q i g. let less = smaller p q P e i in absurd (omega arith)))
  stable (suc n) P p e h =
      ap (λ xs. (P, p) ∷ xs) (same-next (outwards_within n w) (outwards_within (suc n) w) P (λ Q q i g. let less = smaller p q P e i in stable n Q q g (omega arith)))

  -- the maps outwards are the map, and then those of the next one
  pub outwards-step : (M : Map) (m : ModuleId) → maps_outwards w M m ≡ (M, m) ∷ option_map_or (λ x. maps_outwards w x.0 x.1) (next_outwards w M) []
  outwards-step M m = by (length w.places) refl
    where
      within : (q : ModuleId) (Q : Map) → map_of w q ≡ Some Q → q.0 < length w.places
      within q Q e = ltb-true q.0 (length w.places) (placed-known w q (subst IsSome (sym e) refl))

      by : (n : ℕ) → length w.places ≡ n → outwards_within n w M m ≡ (M, m) ∷ option_map_or (λ x. outwards_within n w x.0 x.1) (next_outwards w M) []
      by zero i = ap (λ xs. (M, m) ∷ xs) (sym (no-next M) ∙ same-next none (outwards_within zero w) M (λ Q q _ e. let less = within q Q e in absurd (omega arith)))
      by (suc n) i = ap (λ xs. (M, m) ∷ xs) (same-next (outwards_within n w) (outwards_within (suc n) w) M (λ Q q _ e. let less = within q Q e in stable n Q q e (omega arith)))

  -- there are fewer from the next one
  pub fewer-next : (M P : Map) (m p : ModuleId) → Some (P, p) ≡ next_outwards w M → length (maps_outwards w P p) < length (maps_outwards w M m)
  fewer-next M P m p e =
      let step = ap length (outwards-step M m ∙ ap (λ o. (M, m) ∷ option_map_or (λ (x : Map × ModuleId). maps_outwards w x.0 x.1) o []) (sym e)) in
      omega arith

  module _ {F T : Type 0} (step : F → Bor Map → ModuleId → Option T → F → Type 0) where
    -- it does not, and there is no next one
    pub asks-ended : (M : Bor Map) (m : ModuleId) (f g : F) → None ≡ next_outwards w M.now → step f M m None g → AsksMaps step (maps_outwards w M.now m) f None g
    asks-ended M m f g e s =
        let only = outwards-step M.now m ∙ ap (λ o. (M.now, m) ∷ option_map_or (λ (x : Map × ModuleId). maps_outwards w x.0 x.1) o []) (sym e) in
        subst (λ xs. AsksMaps step xs f None g) (sym only) (None, g, (M, refl, s), (refl, refl))

    -- it does not, and what it answers about the next ones is the answer
    pub asks-on : (M : Bor Map) (P : Map) (m p : ModuleId) (f h g : F) (r : Option T) → Some (P, p) ≡ next_outwards w M.now → step f M m None h → AsksMaps step (maps_outwards w P p) h r g → AsksMaps step (maps_outwards w M.now m) f r g
    asks-on M P m p f h g r e s rest =
        let all = outwards-step M.now m ∙ ap (λ o. (M.now, m) ∷ option_map_or (λ (x : Map × ModuleId). maps_outwards w x.0 x.1) o []) (sym e) in
        subst (λ xs. AsksMaps step xs f r g) (sym all) (None, h, (M, refl, s), rest)

    -- it does not, and may be called with the next ones
    pub may-on : (may : F → Bor Map → ModuleId → Type 0) (M : Bor Map) (P : Map) (m p : ModuleId) (f h : F) → Some (P, p) ≡ next_outwards w M.now → IsHandedOut w (P, p) → step f M m None h
        → MayAskMaps w may step (maps_outwards w M.now m) f → MayAskMaps w may step (maps_outwards w P p) h
    may-on may M P m p f h e out s all_may =
        let all = outwards-step M.now m ∙ ap (λ o. (M.now, m) ∷ option_map_or (λ (x : Map × ModuleId). maps_outwards w x.0 x.1) o []) (sym e) in
        let begun = (outwards-first w P p).1 in
        let next = subst (λ xs. MayAskNext w may step xs h) begun ((subst (λ xs. MayAskMaps w may step xs f) all all_may).1 h (M, refl, s)) in
        subst (λ xs. MayAskMaps w may step xs h) (sym begun) (next.0 out, next.1)

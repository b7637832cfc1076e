-- The maps of a world have the ids of their numbers.
use Rattle.std.proofs.Common.{◌≡◌, ℕ, zero, suc, Bool, true, false, cond, [], ◌∷◌, Option, Some, None, length, map, slice_get, nat_eq, is_some, sym, ap, ◌∙◌, refl, arith, IsTrue, IsSome, true≢false, eq-eqb}
use Rattle.std.specs.Borrow.{Bor}
use Rattle.std.specs.Option.{option_map, option_and_then, option_copied, IfSome}
use Rattle.std.proofs.lemmas.Option.{slice_get-map}
use Rattle.std.proofs.lemmas.List.{length-map}
use Rattle.std.proofs.lemmas.Bool.{lt-ltb, ltb-true}
use Rattle.dm_maps.proofs.Ids.{BlockId, Crate, MapId, ModuleId, Place}
use Rattle.dm_maps.specs.declared.check.held.HeldId.TheVariants as held
use Rattle.dm_maps.specs.Known.{knows}
use Rattle.dm_def_map.specs.Maps.{Map, Modules, module_at}
use Rattle.dm_maps.specs.World.{World, numbered_map, crate_map, map_of}
use Rattle.dm_maps.specs.Trees.{Outline, outline, outlines, IsWorld}
use Rattle.dm_maps.proofs.GrowthLemmas.{get-within}
use Rattle.dm_maps.proofs.ModuleGrowth.{entry}
use Rattle.dm_maps.proofs.SoundLemmas.{map-lawful}
use Rattle.dm_maps.proofs.WorldGrowth.{numbered-outlines}

module _ (w : World) (is : IsWorld w) where
  -- the map of a crate
  pub crate_id-is : (k : Crate) (m : Map) → crate_map w k ≡ Some m → m.id ≡ record { krate = k; block = None }
  crate_id-is k m e = (is.crates k.0 (outline m) (slice_get-map outline w.crate_maps k.0 ∙ ap (option_map outline) e)).0

  pub crate-own : (k : Crate) (m : Map) → crate_map w k ≡ Some m → numbered_map w m.id ≡ Some m
  crate-own k m e = ap (numbered_map w) (crate_id-is k m e) ∙ e

  -- the map of a block
  pub block_id-is : (b : BlockId) (m : Map) → slice_get w.block_maps b.0 ≡ Some m → m.id.block ≡ Some b
  block_id-is b m e = (is.blocks b.0 (outline m) (slice_get-map outline w.block_maps b.0 ∙ ap (option_map outline) e)).0

  pub block-own : (b : BlockId) (m : Map) → slice_get w.block_maps b.0 ≡ Some m → numbered_map w m.id ≡ Some m
  block-own b m e = (λ i. elim (block_id-is b m e i) [ None ↦ slice_get w.crate_maps m.id.krate.0 | Some x ↦ slice_get w.block_maps x.0 ]) ∙ e

  -- whichever it is
  pub numbered-own : (id : MapId) (m : Map) → numbered_map w id ≡ Some m → numbered_map w m.id ≡ Some m
  numbered-own id m e = by id.block e
    where
      by : (block : Option BlockId) → elim block [ None ↦ slice_get w.crate_maps id.krate.0 | Some b ↦ slice_get w.block_maps b.0 ] ≡ Some m → numbered_map w m.id ≡ Some m
      by None g = crate-own id.krate m g
      by (Some b) g = block-own b m g

  -- the crate of a map is one of the world's
  pub crate-known : (id : MapId) (m : Map) → numbered_map w id ≡ Some m → IsTrue (knows w (held.Crate m.id.krate))
  crate-known id m e =
      let fine = map-lawful w is id m e in
      let less = is.in_crates m.root (record { map = m.id; index = 0; parent = None }) (fine.listed 0 m.root None fine.root) in
      let count : length (outlines w.crate_maps) ≡ length w.crate_maps = length-map w.crate_maps outline in
      lt-ltb m.id.krate.0 (length w.crate_maps) (omega arith)

  -- a module of the world lies in a map
  pub map-there : (m : ModuleId) → IsTrue (knows w (held.Module m)) → IsSome (map_of w m)
  map-there m known =
      let there = get-within w.places m.0 (ltb-true m.0 (length w.places) known) in
      let s = is.stands m there.0 there.1 in
      ap (λ o. is_some (option_and_then (λ (p : Place). numbered_map w p.map) o)) there.1
      ∙ some-map (numbered_map w there.0.map) s.there (sym (numbered-outlines w there.0.map) ∙ s.is_map)
    where
      some-map : (r : Option Map) (o : Outline) → option_map outline r ≡ Some o → IsSome r
      some-map None o e = cc
      some-map (Some x) o e = refl

  -- which has it
  pub map-lists : (m : ModuleId) (own : Map) → map_of w m ≡ Some own → IsSome (module_at own.modules m)
  map-lists m own e = by (slice_get w.places m.0) refl e
    where
      listed : (es : Modules) (i : ℕ) (q : Option ModuleId) → slice_get (map entry es) i ≡ Some (m, q) → IsSome (module_at es m)
      listed [] i q h = cc
      listed (x ∷ es) i q h = step (nat_eq m.0 x.0.0) refl i h (λ j g. listed es j q g)
        where
          step : (b : Bool) → nat_eq m.0 x.0.0 ≡ b → (i : ℕ) → slice_get (map entry (x ∷ es)) i ≡ Some (m, q) → ((j : ℕ) → slice_get (map entry es) j ≡ Some (m, q) → IsSome (module_at es m)) → IsSome (cond b (Some x.1) (module_at es m))
          step true t i h rest = refl
          step false t zero h rest =
              let same : entry x ≡ (m, q) = cc in
              let number : m.0 ≡ x.0.0 = sym (ap (λ (y : ModuleId × Option ModuleId). y.0.0) same) in
              absurd (true≢false (sym (eq-eqb m.0 x.0.0 number) ∙ t))
          step false t (suc i) h rest = rest i h

      at : (p : Place) → slice_get w.places m.0 ≡ Some p → numbered_map w p.map ≡ Some own → IsSome (module_at own.modules m)
      at p g h =
          let s = is.stands m p g in
          let same : outline own ≡ s.there =
          let n : Some (outline own) ≡ Some s.there = ap (option_map outline) (sym h) ∙ sym (numbered-outlines w p.map) ∙ s.is_map in cc in
          listed own.modules p.index p.parent (ap (λ (o : Outline). slice_get o.modules p.index) same ∙ s.is_module)

      by : (o : Option Place) → slice_get w.places m.0 ≡ o → option_and_then (λ (p : Place). numbered_map w p.map) o ≡ Some own → IsSome (module_at own.modules m)
      by None g h = cc
      by (Some p) g h = at p g h

  -- and is the world's of its id
  pub map-own : (m : ModuleId) (own : Map) → map_of w m ≡ Some own → numbered_map w own.id ≡ Some own
  map-own m own e = by (slice_get w.places m.0) e
    where
      by : (o : Option Place) → option_and_then (λ (p : Place). numbered_map w p.map) o ≡ Some own → numbered_map w own.id ≡ Some own
      by None h = cc
      by (Some p) h = numbered-own p.map own h

-- ---- What is found behind a reference.

pub of_found : {X : Type 0} (r : Option (Bor X)) (o : Option X) (P : X → Type 0) → option_copied r ≡ o → ((x : X) → o ≡ Some x → P x) → IfSome r (λ b. P b.now)
of_found None o P e h = tt
of_found (Some b) o P e h = h b.now (sym e)

pub is_found : {X : Type 0} (r : Option (Bor X)) (o : Option X) → option_copied r ≡ o → IsSome o → IsSome r
is_found None o e h = absurd (true≢false (sym (ap is_some e ∙ h)))
is_found (Some b) o e h = refl

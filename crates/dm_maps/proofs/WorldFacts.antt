-- What holds of the modules and maps of every world.
use Rattle.std.proofs.Common.{◌≡◌, ◌<◌, arith, false, nat_eq, not, subst, true, true≢false, ℕ, zero, suc, [], ◌∷◌, Option, None, Some, length, map, slice_get, refl, sym, ap, ◌∙◌, IsTrue, IsSome, is_some}
use Rattle.std.proofs.lemmas.Bool.{ltb-true}
use Rattle.std.specs.Option.{option_map, option_map_or, option_and_then}
use Rattle.std.proofs.lemmas.List.{length-map}
use Rattle.dm_maps.proofs.Ids.{Crate, MapId, ModuleId, Place}
use Rattle.dm_maps.specs.declared.check.held.HeldId.TheVariants as held
use Rattle.dm_maps.specs.Known.{knows}
use Rattle.dm_def_map.specs.Maps.{Map, Module, Modules, nth_module}
use Rattle.dm_maps.specs.World.{World, placed_module, scope_if_known, numbered_map}
use Rattle.dm_maps.specs.BuildBlocks.{crate_in}
use Rattle.dm_maps.specs.BuildMaps.{lacks_map}
use Rattle.dm_maps.specs.Trees.{Outline, outline, outlines, IsWorld, map_id_in, no_map}
use Rattle.dm_maps.proofs.GrowthLemmas.{get-within}
use Rattle.dm_maps.proofs.ModuleGrowth.{entry}
use Rattle.dm_maps.proofs.WorldGrowth.{numbered-outlines}

-- a module that an outline has is there, with that parent
entry-there : (es : Modules) (i : ℕ) (m : ModuleId) (q : Option ModuleId) → slice_get (map entry es) i ≡ Some (m, q) → (d : Module) × (nth_module es i ≡ Some d) × (d.parent ≡ q)
entry-there [] i m q h = cc
entry-there (e ∷ es) zero m q h = let same : entry e ≡ (m, q) = cc in (e.1, refl, ap (λ (x : ModuleId × Option ModuleId). x.1) same)
entry-there (e ∷ es) (suc i) m q h = entry-there es i m q h

module _ (w : World) (is : IsWorld w) where
  -- a module stands at its place, with the parent that the place says
  pub module-there : (m : ModuleId) (p : Place) → slice_get w.places m.0 ≡ Some p → (d : Module) × (placed_module w p ≡ Some d) × (d.parent ≡ p.parent)
  module-there m p e =
      let s = is.stands m p e in
      by (numbered_map w p.map) (sym (numbered-outlines w p.map) ∙ s.is_map) s.is_module
    where
      by : (o : Option Map) → option_map outline o ≡ Some (is.stands m p e).there → slice_get (is.stands m p e).there.modules p.index ≡ Some (m, p.parent)
          → (d : Module) × (option_and_then (λ (x : Map). nth_module x.modules p.index) o ≡ Some d) × (d.parent ≡ p.parent)
      by None g h = cc
      by (Some x) g h =
          let same : outline x ≡ (is.stands m p e).there = cc in
          entry-there x.modules p.index m p.parent (ap (λ (o : Outline). slice_get o.modules p.index) same ∙ h)

  -- so a module of the world has a scope
  pub scope-there : (m : ModuleId) → IsTrue (knows w (held.Module m)) → IsSome (scope_if_known w m)
  scope-there m known =
      let at = get-within w.places m.0 (ltb-true m.0 (length w.places) known) in
      let d = module-there m at.0 at.1 in
      ap (λ o. is_some (option_map (λ (x : Module). x.scope) (option_and_then (placed_module w) o))) at.1
      ∙ ap (λ o. is_some (option_map (λ (x : Module). x.scope) o)) d.1

  -- and its crate has a number
  pub crate-within : (m : ModuleId) → m.0 < length w.places → (crate_in w m).0 < length w.crate_maps
  crate-within m known =
      let at = get-within w.places m.0 known in
      let own : at.0.map ≡ map_id_in w.places m = sym (ap (λ o. option_map_or (λ (p : Place). p.map) o no_map) at.1) in
      let count : length (outlines w.crate_maps) ≡ length w.crate_maps = length-map w.crate_maps outline in
      let l = is.in_crates m at.0 at.1 in
      let within : at.0.map.krate.0 < length w.crate_maps = omega arith in
      subst (λ (id : MapId). id.krate.0 < length w.crate_maps) own within

  -- which has an extern prelude
  pub extern-within : (k : Crate) → IsTrue (knows w (held.Crate k)) → k.0 < length w.local_maps
  extern-within k known =
      let count : length (outlines w.crate_maps) ≡ length w.crate_maps = length-map w.crate_maps outline in
      let externs = is.externs in
      let l : k.0 < length w.crate_maps = ltb-true k.0 (length w.crate_maps) known in
      omega arith

-- a map that is not lacking is there
pub has-map : (w : World) (id : MapId) → lacks_map w id ≡ false → IsSome (numbered_map w id)
has-map w id there = by (numbered_map w id) there
  where
    by : (o : Option Map) → option_map_or (λ (m : Map). not (nat_eq m.id.krate.0 id.krate.0)) o true ≡ false → IsSome o
    by None e = absurd (true≢false e)
    by (Some m) e = refl

-- How the modules of a map of a world stand.
use Rattle.std.proofs.Common.{◌≡◌, ◌↔◌, ◌<◌, ◌∙◌, ℕ, Option, None, Some, length, map, slice_get, refl, sym, ap, arith}
use Rattle.std.proofs.lemmas.Option.{slice_get-map, slice_get_within}
use Rattle.std.specs.Option.{option_map, option_map_or, option_and_then}
use Rattle.dm_maps.proofs.Ids.{BlockId, MapId, ModuleId, Place}
use Rattle.dm_def_map.specs.Maps.{Map, Module, module_at, nth_module}
use Rattle.dm_maps.specs.MapFacts.{IsAscending, HasContainer}
use Rattle.dm_maps.specs.Trees.{no_map, Outline, outline, containers_of, map_id_in, IsMap, IsWorld}
use Rattle.dm_maps.specs.World.{World, map_of, placed_module, module_of, numbered_map}
use Rattle.dm_maps.proofs.GrowthLemmas.{get-within}
use Rattle.dm_maps.proofs.ModuleGrowth.{entry}
use Rattle.dm_maps.proofs.SoundLemmas.{found-at, map-lawful}
use Rattle.dm_maps.proofs.WorldGrowth.{numbered-outlines}

module _ (w : World) (is : IsWorld w) where
  -- the map of a place
  map-at : (m : ModuleId) (p : Place) → slice_get w.places m.0 ≡ Some p → (x : Map) × (numbered_map w p.map ≡ Some x) × (x.id ≡ p.map)
  map-at m p e = by (numbered_map w p.map) refl (sym (numbered-outlines w p.map) ∙ (is.stands m p e).is_map)
    where
      by : (o : Option Map) → numbered_map w p.map ≡ o → option_map outline o ≡ Some (is.stands m p e).there → (x : Map) × (numbered_map w p.map ≡ Some x) × (x.id ≡ p.map)
      by None g h = cc
      by (Some x) g h =
          let same : outline x ≡ (is.stands m p e).there = cc in
          (x, g, ap (λ (o : Outline). o.id) same ∙ (is.stands m p e).of_id)

  id-at : (m : ModuleId) (p : Place) → slice_get w.places m.0 ≡ Some p → map_id_in w.places m ≡ p.map
  id-at m p e = ap (λ o. option_map_or (λ (y : Place). y.map) o no_map) e

  lies-at : (m : ModuleId) (p : Place) (x : Map) → slice_get w.places m.0 ≡ Some p → numbered_map w p.map ≡ Some x → map_of w m ≡ Some x
  lies-at m p x e g = ap (option_and_then (λ (y : Place). numbered_map w y.map)) e ∙ g

  -- ---- A map of the world.

  module _ (own : Map) (there : numbered_map w own.id ≡ Some own) where
    lawful : IsMap w.places (outline own)
    lawful = map-lawful w is own.id own there

    -- it lists its modules in order of number
    pub ascending : IsAscending own.modules
    ascending i j a b less g h = lawful.ascending i j (entry a) (entry b) less (as_entry i a g) (as_entry j b h)
      where
        as_entry : (k : ℕ) (x : ModuleId × Module) → slice_get own.modules k ≡ Some x → slice_get (map entry own.modules) k ≡ Some (entry x)
        as_entry k x f = slice_get-map entry own.modules k ∙ ap (option_map entry) f

    -- where a module has it as its map, it lies in it
    pub lies-in : (m : ModuleId) → m.0 < length w.places → map_id_in w.places m ≡ own.id → map_of w m ≡ Some own
    lies-in m within e =
        let at = get-within w.places m.0 within in
        lies-at m at.0 own at.1 (ap (numbered_map w) (sym (id-at m at.0 at.1) ∙ e) ∙ there)

    module _ (m : ModuleId) (d : Module) (listed : module_at own.modules m ≡ Some d) where
      abbrev at : (i : ℕ) × (nth_module own.modules i ≡ Some d) × (slice_get (map entry own.modules) i ≡ Some (m, d.parent))
      at = found-at own.modules m d listed

      abbrev place : Place
      place = record { map = own.id; index = at.0; parent = d.parent }

      placed : slice_get w.places m.0 ≡ Some place
      placed = lawful.listed at.0 m d.parent at.2

      within : m.0 < length w.places
      within = slice_get_within w.places m.0 place placed

      -- a module that it lists has it as its map, has its parent there, and is found by its number
      pub its-id : map_id_in w.places m ≡ own.id
      its-id = id-at m place placed

      pub its-parent : option_and_then (λ (p : Place). p.parent) (slice_get w.places m.0) ≡ d.parent
      its-parent = ap (option_and_then (λ (p : Place). p.parent)) placed

      pub its-module : module_of w m ≡ Some d
      its-module = ap (option_and_then (placed_module w)) placed ∙ ap (option_and_then (λ (x : Map). nth_module x.modules at.0)) there ∙ at.1

      -- a parent has a smaller number, and lies in the map
      pub parent-lies : (q : ModuleId) → d.parent ≡ Some q → (q.0 < m.0) × (map_of w q ≡ Some own)
      parent-lies q up =
          let over = (is.placed m place placed).parent q up in
          let less = over.0 in
          let inside = within in
          (less, lies-in q (omega arith) over.1)

      -- the map has one module without a parent, its root
      root-first : d.parent ≡ None → m ≡ own.root
      root-first none =
          let entry_is : slice_get (map entry own.modules) at.0 ≡ Some (m, None) = at.2 ∙ (λ i. Some (m, none i)) in
          let first = lawful.one_root at.0 m entry_is in
          let entries : Some (m, None) ≡ Some (own.root, None) = sym entry_is ∙ ap (slice_get (map entry own.modules)) first ∙ lawful.root in
          let pair : (m, None) ≡ (own.root, None) = cc in
          ap (λ (x : ModuleId × Option ModuleId). x.0) pair

      root-alone : m ≡ own.root → d.parent ≡ None
      root-alone same =
          let places : Some place ≡ Some (record { map = own.id; index = 0; parent = None }) = sym placed ∙ ap (λ (x : ModuleId). slice_get w.places x.0) same ∙ lawful.listed 0 own.root None lawful.root in
          let one : place ≡ record { map = own.id; index = 0; parent = None } = cc in
          ap (λ (y : Place). y.parent) one

      pub one-root : (d.parent ≡ None) ↔ (m ≡ own.root)
      one-root = (root-first, root-alone)

      -- in a block's map: a module of smaller number and of the same crate contains the block
      pub contained : (b : BlockId) → own.id.block ≡ Some b → HasContainer w m own
      contained b g =
          let h = (is.placed m place placed).block b g in
          let c = h.container in
          let less = h.smaller in
          let inside = within in
          let around = get-within w.places c.0 (omega arith) in
          let its = map-at c around.0 around.1 in
          let block_map : slice_get w.block_maps b.0 ≡ Some own = (λ i. elim (sym g i) [ None ↦ slice_get w.crate_maps own.id.krate.0 | Some x ↦ slice_get w.block_maps x.0 ]) ∙ there in
          let parents : Some own.parent ≡ slice_get (containers_of w.block_maps) b.0 = sym (slice_get-map (λ (x : Map). x.parent) w.block_maps b.0 ∙ ap (option_map (λ (x : Map). x.parent)) block_map) in
          record {
            container = c;
            is = ap (option_and_then (λ (x : Option ModuleId). x)) parents ∙ h.is;
            smaller = less;
            its_map = its.0;
            lies = lies-at c around.0 its.0 around.1 its.1;
            same_crate = ap (λ (id : MapId). id.krate) (its.2 ∙ sym (id-at c around.0 around.1)) ∙ h.same_crate;
          }

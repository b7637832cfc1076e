use Rattle.std.proofs.Common.{◌≡◌, ◌∙◌, Some, ap, refl, rules, slice_get}
use Rattle.std.specs.List.{filter_map}
use Rattle.dm_maps.specs.OutwardLaws.{AsksMaps-first, MayAskMaps-own}
use Rattle.dm_maps.specs.Outwards.{maps_outwards}
use Rattle.dm_def_map.specs.Maps.{Map}
use Rattle.defmap_callers.specs.Maps.{child_in}
use Rattle.defmap_callers.proofs.maps.child_outwards.Goals as goal

one : (own map : Map) → Some own ≡ Some map → own ≡ map
one own map same = cc

pub with_ancestor_maps-requires : goal.with_ancestor_maps-requires
with_ancestor_maps-requires c = search (rules, MayAskMaps-own)

pub returns : goal.returns
returns c = λ map lies.
    let name = c.args.name.now in
    AsksMaps-first _ _ _ _ c.with_ancestor_maps.ensures.0 c.with_ancestor_maps.ensures.1 (child_in name) (λ q. q.0.now ≡ name) (λ g h M m a same asked. search rules) refl
    ∙ ap (λ (M : Map). slice_get (filter_map (child_in name) (maps_outwards c.args.world.now M c.args.m)) 0) (one c.in_ok-map.map.now map (c.in_ok-map.ensures.value ∙ lies))

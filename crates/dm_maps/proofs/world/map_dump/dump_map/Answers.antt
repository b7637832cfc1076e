use Rattle.std.proofs.Common.{◌++◌, ◌∙◌, ap, sym, string_bytes}
use Rattle.std.proofs.lemmas.List.{append_assoc}
use Rattle.dm_maps.specs.MapDumps.{map_dump, map_text}
use Rattle.dm_maps.proofs.MapFacts.{IsMapOf-checked}
use Rattle.dm_maps.proofs.TreeLemmas.{map_dump-next, fewer-outwards}
use Rattle.dm_maps.proofs.world.map_dump.dump_map.Goals as goal

pub maps-init : goal.maps-init
maps-init c = record {
  text = ap (λ x. x ++ map_dump c.args.world.now c.args.first.now) c.new-text.ensures.bytes;
  facts = IsMapOf-checked c.args.world.now c.tables.ensures.world c.args.first.now c.requires;
}

pub maps-smaller : goal.maps-smaller
maps-smaller c = fewer-outwards c.args.world.now c.next_outwards.ensures.lawful c.maps.map.now c.in-Some.outer.now c.in-Some._container c.in-Some.ensures.value

pub maps-preserved : goal.maps-preserved
maps-preserved c =
    let w = c.args.world.now in
    let next = map_dump w c.in-Some.outer.now in
    record {
      text = ap (λ x. x ++ next) c.in_ok-write_map.ensures
          ∙ append_assoc (string_bytes c.maps.text) (map_text w c.maps.map.now) next
          ∙ ap (λ x. string_bytes c.maps.text ++ x) (sym (map_dump-next w c.next_outwards.ensures.lawful c.maps.map.now c.in-Some.outer.now c.in-Some._container c.in-Some.ensures.value))
          ∙ c.maps.invariant.text;
      facts = c.in-Some.ensures.facts;
    }

use Rattle.std.proofs.Common.{◌≡◌, ◌∙◌, ap, sym, subst, ◌<◌, length}
use Rattle.dm_maps.specs.World.{World, with_maps}
use Rattle.dm_maps.specs.Build.{next_crate, next_module, with_crate}
use Rattle.dm_maps.specs.Tables.{tables_of}
use Rattle.dm_maps.proofs.BuilderGrowth.{IsKept, IsKept-crate}
use Rattle.dm_maps.proofs.WorldGrowth.{crate-made}
use Rattle.dm_maps.proofs.builder.WorldBuilder.push_crate.Goals as goal

-- the tables are those with the crate
grown :
    (c : goal.In_ok-add_outmost_map) →
    record (with_maps (tables_of c.self.inside) c.add_outmost_map.new.maps) { places = c.add_outmost_map.new.places.items; local_maps = c.add_outmost_map.new.local_maps.items } ≡ with_crate (tables_of c.self.inside) c.args.edition c.args.file
grown c =
    let now = sym c.self.view_is in
    let h = c.in_ok-add_outmost_map.ensures in
    crate-made (tables_of c.self.inside) c.args.edition c.args.file c.args.krate c.next_module-root.result c.in_ok-map.map c.add_outmost_map.new.maps c.add_outmost_map.new.places.items c.add_outmost_map.new.local_maps.items (c.requires.number ∙ ap next_crate now) (c.next_module-root.ensures ∙ ap next_module now) c.in_ok-map.ensures h.places h.locals h.maps

pub invariant_of-self-2 : goal.invariant_of-self-2
invariant_of-self-2 c =
    let w : World = tables_of c.self.inside in
    let ups = c.self.inside.ladders in
    let ls = c.self.inside.block_lists.items in
    let h = c.in_ok-add_outmost_map.ensures in
    let room : length w.places < 4294967295 = subst (λ (x : World). length x.places < 4294967295) (sym c.self.view_is) c.requires.room in
    subst IsKept (λ i. (sym (grown c) i, sym h.ladders i, sym h.lists i)) (IsKept-crate w ups ls c.self.invariant room c.args.edition c.args.file)

pub returns-clause-ok : goal.returns-clause-ok
returns-clause-ok c = grown c ∙ ap (λ (w : World). with_crate w c.args.edition c.args.file) c.self.view_is

use Rattle.std.proofs.Common.{◌≡◌, false, sym, subst}
use Rattle.dm_maps.specs.Maps.{Maps}
use Rattle.dm_maps.specs.Tables.{tables_of}
use Rattle.dm_maps.specs.BuildMaps.{lacks_map}
use Rattle.dm_maps.specs.World.{World, with_maps}
use Rattle.dm_maps.proofs.WorldFacts.{has-map}
use Rattle.dm_maps.proofs.BuilderGrowth.{IsKept, IsKept-changed}
use Rattle.dm_maps.proofs.builder.WorldBuilder.change_map.Goals as goal

pub change-requires : goal.change-requires
change-requires c = has-map (tables_of c.self.inside) c.args.id (subst (λ (w : World). lacks_map w c.args.id ≡ false) (sym c.self.view_is) c.requires)

pub invariant_of-self-2 : goal.invariant_of-self-2
invariant_of-self-2 c =
    let w = tables_of c.self.inside in
    let ups = c.self.inside.ladders in
    let ls = c.self.inside.block_lists.items in
    subst (λ (ms : Maps). IsKept (with_maps w ms, ups, ls)) (sym c.in_ok-change.ensures.ok) (IsKept-changed w ups ls c.self.invariant c.args.id c.args.change)

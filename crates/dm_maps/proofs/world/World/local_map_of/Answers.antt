use Rattle.std.proofs.Common.{IsTrue, subst, sym}
use Rattle.dm_maps.proofs.Ids.{Crate}
use Rattle.dm_maps.specs.declared.check.held.HeldId.TheVariants as held
use Rattle.dm_maps.specs.Known.{knows}
use Rattle.dm_maps.proofs.MapLemmas.{crate-known}
use Rattle.dm_maps.proofs.world.World.local_map_of.Goals as goal

pub local_def_map-requires : goal.local_def_map-requires
local_def_map-requires c =
    let w = c.args.self.now in
    subst (λ (k : Crate). IsTrue (knows w (held.Crate k))) (sym c.krate.ensures) (crate-known w c.tables-world.ensures.world.lawful c.args.map.now.id c.args.map.now c.requires)

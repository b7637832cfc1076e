use Rattle.std.proofs.Common.{IsTrue, subst, sym}
use Rattle.dm_maps.proofs.Ids.{Crate}
use Rattle.dm_maps.specs.declared.check.held.HeldId.TheVariants as held
use Rattle.dm_maps.specs.Known.{knows}
use Rattle.dm_maps.proofs.MapLemmas.{crate-known}
use Rattle.dm_maps.proofs.world.World.crate_root_of.Goals as goal

pub crate_def_map-own-requires : goal.crate_def_map-own-requires
crate_def_map-own-requires c =
    let w = c.args.self.now in
    subst (λ (k : Crate). IsTrue (knows w (held.Crate k))) (sym c.krate.ensures) (crate-known w c.tables-world.ensures.world.lawful c.args.map.now.id c.args.map.now c.requires)

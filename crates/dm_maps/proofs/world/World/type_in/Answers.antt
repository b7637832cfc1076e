use Rattle.std.proofs.Common.{subst}
use Rattle.dm_maps.specs.Sound.{IsSound, IsCheckedWorld}
use Rattle.dm_maps.proofs.world.World.type_in.Goals as goal

pub returns-clause-known : goal.returns-clause-known
returns-clause-known c =
    let sound : IsSound c.args.self.now = (subst IsCheckedWorld c.self.view_is c.self.invariant.0).sound in
    sound.bound c.args.m c.args.name.now

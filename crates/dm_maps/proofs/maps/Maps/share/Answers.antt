use Rattle.std.proofs.Common.{sym, ap, subst}
use Rattle.dm_maps.specs.BlockLists.{AreNumbered}
use Rattle.dm_maps.specs.Maps.{Maps}
use Rattle.dm_maps.proofs.maps.Maps.share.Goals as goal

pub give-requires : goal.give-requires
give-requires c = subst AreNumbered (ap (λ (ms : Maps). ms.crates) (sym c.self.view_is)) c.requires.numbered

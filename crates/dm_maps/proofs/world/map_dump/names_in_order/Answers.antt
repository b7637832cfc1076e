use Rattle.std.proofs.Common.{rules}
use Rattle.dm_scope.specs.Sorted.{AreInOrder, seen}
use Rattle.dm_maps.proofs.NameOrder.{AreInOrder-is}
use Rattle.dm_maps.proofs.world.map_dump.names_in_order.Goals as goal

pub returns : goal.returns
returns c =
    let sorted : AreInOrder (seen c.in_ok-sorted.sorted.items) c.args.names.now = search rules in
    AreInOrder-is (seen c.in_ok-sorted.sorted.items) c.args.names.now sorted

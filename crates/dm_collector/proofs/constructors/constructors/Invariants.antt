use Rattle.std.proofs.Common.{◌≡◌, ◌++◌, drop}
use Rattle.dm_collector.specs.Constructors.{constructors}
use Rattle.dm_collector.proofs.constructors.constructors.Given as goal

abbrev pub invariant-loop-number : goal.invariant-loop-number
invariant-loop-number l =
    l.found.items ++ constructors l.world l.files l.lists l.tables l.number (drop l.number l.graph)
    ≡ constructors l.world l.files l.lists l.tables 0 l.graph

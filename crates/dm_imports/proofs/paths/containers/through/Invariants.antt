use Rattle.std.proofs.Common.{◌≡◌, length}
use Rattle.dm_imports.specs.Paths as spec
use Rattle.dm_imports.specs.Tables.{asks, of_tables}
use Rattle.dm_imports.proofs.paths.containers.through.Given as goal

abbrev pub invariant-segments : goal.invariant-segments
invariant-segments l =
    spec.through (of_tables l.maps) (asks l.asking) l.at l.segment l.left l.namespace
    ≡ spec.through (of_tables l.maps) (asks l.asking) l.fn.container l.fn.name l.fn.rest l.namespace

abbrev pub decreases-segments : goal.decreases-segments
decreases-segments l = length l.left

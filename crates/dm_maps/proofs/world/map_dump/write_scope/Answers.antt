use Rattle.dm_maps.specs.MapDumps.{scope_text}
use Rattle.dm_maps.specs.ScopeTables.{scope_tables}
use Rattle.dm_maps.proofs.NameOrder.{IsDump-scope_text}
use Rattle.dm_maps.proofs.world.map_dump.write_scope.Goals as goal

pub returns : goal.returns
returns c =
    let t = scope_tables c.args.world.now in
    c.in_ok-dump.ensures.exact (scope_text t c.args.scope.now) (IsDump-scope_text t c.args.scope.now)

use Rattle.std.proofs.Common.{◌∙◌, ap, List}
use Rattle.std.specs.List.{AllByRecursion}
use Rattle.dm_base.specs.declared.visibility.RawVisibility.{RawVisibility}
use Rattle.dm_maps.specs.TablesHold.{raw_holds}
use Rattle.dm_maps.specs.Known.{KnowsAll}
use Rattle.dm_maps.specs.RawTables.{fields_in}
use Rattle.dm_maps.specs.World.{World}
use Rattle.dm_maps.proofs.MapLemmas.{of_found}
use Rattle.dm_maps.proofs.RawLemmas.{fields-known}
use Rattle.dm_maps.proofs.world.World.raw_fields_of.Goals as goal

pub returns-clause-known : goal.returns-clause-known
returns-clause-known c =
    let w = c.args.self.now in
    of_found c.raw_fields_of.result (fields_in w c.args.variant) (λ (rs : List RawVisibility). AllByRecursion (λ r. KnowsAll w (raw_holds r)) rs)
    (c.raw_fields_of.ensures ∙ ap (λ (x : World). fields_in x c.args.variant) c.tables.ensures.value)
    (fields-known w c.tables.ensures.world.checked c.args.variant)

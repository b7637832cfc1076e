use Rattle.std.proofs.Common.{◌∙◌, ap}
use Rattle.dm_base.specs.declared.visibility.RawVisibility.{RawVisibility}
use Rattle.dm_maps.specs.TablesHold.{raw_holds}
use Rattle.dm_maps.specs.Known.{KnowsAll}
use Rattle.dm_maps.specs.RawTables.{trait_visibility_in}
use Rattle.dm_maps.specs.World.{World}
use Rattle.dm_maps.proofs.MapLemmas.{of_found}
use Rattle.dm_maps.proofs.RawLemmas.{trait-known}
use Rattle.dm_maps.proofs.world.World.raw_trait_of.Goals as goal

pub returns-clause-known : goal.returns-clause-known
returns-clause-known c =
    let w = c.args.self.now in
    of_found c.raw_trait_of.result (trait_visibility_in w c.args.id) (λ (r : RawVisibility). KnowsAll w (raw_holds r))
    (c.raw_trait_of.ensures ∙ ap (λ (x : World). trait_visibility_in x c.args.id) c.tables.ensures.value)
    (trait-known w c.tables.ensures.world.checked c.args.id)

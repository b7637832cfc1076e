use Rattle.std.proofs.Common.{◌≡◌, ◌∙◌, ap}
use Rattle.std.specs.Option.{option_copied}
use Rattle.dm_maps.proofs.Ids.{ItemContainerId}
use Rattle.dm_base.specs.declared.visibility.RawVisibility.{RawVisibility}
use Rattle.dm_maps.specs.TablesHold.{raw_holds, container_holds}
use Rattle.dm_maps.specs.Known.{KnowsAll}
use Rattle.dm_maps.specs.RawTables.{assoc_in}
use Rattle.dm_maps.specs.World.{World}
use Rattle.dm_maps.proofs.MapLemmas.{of_found}
use Rattle.dm_maps.proofs.RawLemmas.{container-known, raw-known}
use Rattle.dm_maps.proofs.world.World.raw_assoc_of.Goals as goal
use Rattle.dm_maps.proofs.world.World.raw_assoc_of.Goals.{After-raw_assoc_of}

there : (c : After-raw_assoc_of) → option_copied c.raw_assoc_of.result ≡ assoc_in c.args.self.now c.args.id
there c = c.raw_assoc_of.ensures ∙ ap (λ (x : World). assoc_in x c.args.id) c.tables.ensures.value

pub returns-clause-container : goal.returns-clause-container
returns-clause-container c =
    let w = c.args.self.now in
    of_found c.raw_assoc_of.result (assoc_in w c.args.id) (λ (e : ItemContainerId × RawVisibility). KnowsAll w (container_holds e.0)) (there c) (container-known w c.tables.ensures.world.checked c.args.id)

pub returns-clause-known : goal.returns-clause-known
returns-clause-known c =
    let w = c.args.self.now in
    of_found c.raw_assoc_of.result (assoc_in w c.args.id) (λ (e : ItemContainerId × RawVisibility). KnowsAll w (raw_holds e.1)) (there c) (raw-known w c.tables.ensures.world.checked c.args.id)

use Rattle.dm_base.specs.RunLaws.{shows_in_order}
use Rattle.dm_maps.specs.GoesOn.{deref_variant}
use Rattle.dm_maps.proofs.world.variants.Variants.new.Goals as goal

pub returns-clause-runs : goal.returns-clause-runs
returns-clause-runs c = shows_in_order deref_variant

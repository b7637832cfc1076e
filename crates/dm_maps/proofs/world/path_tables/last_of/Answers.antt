use Rattle.std.proofs.Common.{◌∙◌}
use Rattle.dm_maps.proofs.LastLemmas.{last_of-place}
use Rattle.dm_maps.proofs.world.path_tables.last_of.Goals as goal

pub returns : goal.returns
returns c = c.copied.ensures ∙ c.last.ensures.value ∙ last_of-place c.args.macros.now

use Rattle.dm_maps.proofs.SoundLemmas.{IsSound-checked}
use Rattle.dm_maps.proofs.world.World.of_checked.Goals as goal

pub invariant_of-result : goal.invariant_of-result
invariant_of-result c = (record { lawful = c.lawful.ensures.0; listed = c.lawful.ensures.1; family = c.lawful.ensures.2; checked = c.requires.checked; sound = IsSound-checked c.args.tables c.requires.checked c.lawful.ensures }, c.of_world-records.ensures)

use Rattle.dm_maps.specs.KnownLaws.{vis_known}
use Rattle.dm_retry.proofs.unnamed.allows.Goals as goal

pub is_as_permissive-requires-clause-old : goal.is_as_permissive-requires-clause-old
is_as_permissive-requires-clause-old c = vis_known c.args.world.now c.args.old (c.knows_vis.ensures.0 c.if-knows_vis.true)

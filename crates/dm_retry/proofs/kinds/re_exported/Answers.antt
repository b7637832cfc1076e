use Rattle.dm_maps.specs.KnownLaws.{macro_vis-known, type_vis-known, value_vis-known}
use Rattle.dm_retry.proofs.kinds.re_exported.Goals as goal

pub narrowed_item-requires-clause-own : goal.narrowed_item-requires-clause-own
narrowed_item-requires-clause-own c = type_vis-known c.args.world.now c.args.items c.requires.items

pub narrowed_item-requires-2-clause-own : goal.narrowed_item-requires-2-clause-own
narrowed_item-requires-2-clause-own c = value_vis-known c.args.world.now c.args.items c.requires.items

pub narrowed_item-requires-3-clause-own : goal.narrowed_item-requires-3-clause-own
narrowed_item-requires-3-clause-own c = macro_vis-known c.args.world.now c.args.items c.requires.items

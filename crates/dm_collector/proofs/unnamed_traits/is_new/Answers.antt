use Rattle.dm_maps.specs.KnownLaws.{vis_known}
use Rattle.dm_maps.specs.Trees.{tree_of}
use Rattle.dm_collector.proofs.KnownLemmas.{trait_vis-known}
use Rattle.dm_collector.proofs.unnamed_traits.is_new.Goals as goal

pub is_new_trait-requires-clause-home : goal.is_new_trait-requires-clause-home
unfolding tree_of
is_new_trait-requires-clause-home c = (c.knows_unnamed_trait.ensures.0 c.if-knows_unnamed_trait.true).0

pub is_new_trait-requires-clause-named : goal.is_new_trait-requires-clause-named
is_new_trait-requires-clause-named c =
    vis_known c.args.world.now _ (trait_vis-known c.args.world.now _ _ _ _ (c.knows_unnamed_trait.ensures.0 c.if-knows_unnamed_trait.true))

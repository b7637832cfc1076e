use Rattle.std.proofs.Common.{◌∙◌, sym, ap, subst}
use Rattle.dm_maps.specs.BlockLists.{list_at, HasBlock}
use Rattle.dm_maps.specs.World.{with_maps}
use Rattle.dm_maps.proofs.BuilderGrowth.{IsKept, IsKept-sharing}
use Rattle.dm_maps.specs.Tables.{tables_of}
use Rattle.dm_maps.specs.Maps.{Maps}
use Rattle.dm_maps.proofs.BlockListLemmas.{world-numbered}
use Rattle.dm_maps.proofs.builder.WorldBuilder.share_data.Goals as goal

pub invariant_of-self-2 : goal.invariant_of-self-2
invariant_of-self-2 c =
    let w = tables_of c.self.inside in
    let ups = c.self.inside.ladders in
    let ls = c.self.inside.block_lists.items in
    subst (λ (ms : Maps). IsKept (with_maps w ms, ups, ls)) (sym c.in_ok-share.ensures.ok) (IsKept-sharing w ups ls c.self.invariant c.args.krate c.args.new)

pub share-requires-clause-own : goal.share-requires-clause-own
share-requires-clause-own c = λ b e.
    let listed = c.blocks_of-own.ensures ∙ ap (λ ls. list_at ls c.args.krate.0) c.deref.ensures.value in
    subst (λ l. HasBlock l b) (sym listed) (c.self.invariant.1.lists.each b c.args.krate e)

pub share-requires-clause-numbered : goal.share-requires-clause-numbered
share-requires-clause-numbered c = world-numbered (tables_of c.self.inside) c.self.invariant.0.0

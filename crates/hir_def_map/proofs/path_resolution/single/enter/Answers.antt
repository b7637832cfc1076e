use Rattle.std.proofs.Common.{◌∙◌, ap, sym, map, is_some}
use Rattle.dm_base.specs.Tree.{in_block_map}
use Rattle.dm_maps.specs.Readings.{read}
use Rattle.dm_maps.specs.Trees.{tree_of}
use Rattle.hir_def_map.specs.Answers.{yes_in_block}
use Rattle.hir_def_map.specs.Paths.{stop, enter, root_item}
use Rattle.hir_def_map.proofs.StopLemmas.{enter-stop}
use Rattle.hir_def_map.proofs.path_resolution.single.enter.Goals as goal

pub returns-clause-value : goal.returns-clause-value
returns-clause-value c = λ L.
    let t = tree_of c.args.world.now in
    let S = map (read c.args.world.now L) c.args.segments.now in
    let h = c.home-inside.ensures.value in
    let in_block = c.is_some.ensures ∙ ap is_some c.block.ensures ∙ ap (in_block_map t) h in
    let answer = c.answer_from-answer.ensures.value L ∙ ap (λ x. stop (enter t) t c.home-inside.result x 0 S) c.root_item.ensures.value ∙ ap (λ m. stop (enter t) t m (root_item m) 0 S) h in
    c.yes_in_block.ensures ∙ (λ i. yes_in_block (in_block i) (answer i)) ∙ sym (enter-stop t c.args.m S)

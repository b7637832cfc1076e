use Rattle.std.proofs.Common.{◌∙◌, map}
use Rattle.dm_maps.specs.Readings.{read}
use Rattle.dm_maps.specs.Trees.{tree_of}
use Rattle.hir_def_map.specs.Walk.{starting}
use Rattle.hir_def_map.proofs.WalkLemmas.{walk-stop}
use Rattle.hir_def_map.proofs.path_resolution.single.answer_from.Goals as goal

pub returns-clause-value : goal.returns-clause-value
returns-clause-value c = λ L.
    c.walk.ensures.value L
    ∙ walk-stop (tree_of c.args.world.now) (starting c.args.from c.args.here) c.args.position (map (read c.args.world.now L) c.args.segments.now)

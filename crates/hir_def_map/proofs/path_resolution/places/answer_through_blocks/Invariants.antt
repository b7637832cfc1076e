use Rattle.std.proofs.Common.{◌≡◌, map}
use Rattle.dm_base.specs.Tree.{IsKnown}
use Rattle.dm_maps.specs.Holding.{res_holds}
use Rattle.dm_maps.specs.Known.{KnowsAll}
use Rattle.dm_maps.specs.Readings.{setting_of, read}
use Rattle.dm_maps.specs.Trees.{tree_of}
use Rattle.hir_def_map.specs.Answers.{over_answer, merged}
use Rattle.hir_def_map.specs.Paths.{single}
use Rattle.hir_def_map.proofs.PlaceLemmas.{places_in}
use Rattle.hir_def_map.proofs.path_resolution.places.answer_through_blocks.Given as goal

abbrev pub invariant-roots : goal.invariant-roots
invariant-roots l =
    let t = tree_of l.world in
    let g = setting_of l.world in
    let asked = single g l.ask (map (read l.world l.local) l.segments) in
    record {
      known : IsKnown t l.at;
      answer_known : KnowsAll l.world (res_holds l.answer.resolved_def);
      same : over_answer l.answer (merged (map asked (places_in t g l.at))) ≡ merged (map asked (places_in t g l.fn.ask.origin));
    }

abbrev pub decreases-roots : goal.decreases-roots
decreases-roots l = l.at.0

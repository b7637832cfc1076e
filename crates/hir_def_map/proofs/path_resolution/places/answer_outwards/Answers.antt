use Rattle.std.proofs.Common.{◌∙◌, ap, map, sym}
use Rattle.dm_maps.specs.Readings.{read, setting_of}
use Rattle.dm_maps.specs.Trees.{tree_of}
use Rattle.hir_def_map.specs.Answers.{merged}
use Rattle.hir_def_map.specs.Paths.{single}
use Rattle.hir_def_map.proofs.PlaceLemmas.{places-home}
use Rattle.hir_def_map.proofs.path_resolution.places.answer_outwards.Goals as goal

pub returns-in-None-clause-value : goal.returns-in-None-clause-value
unfolding setting_of
returns-in-None-clause-value c =
    let w = c.args.world.now in
    let g = setting_of w in
    let asked = single g c.args.ask.now (map (read w c.args.local.now) c.args.segments.now) in
    c.answer_at_home.ensures.value
    ∙ ap (λ ps. merged (map asked ps)) (sym (places-home (tree_of w) g c.args.ask.now.origin c.in-None.ensures.way c.in-None.ensures.home))

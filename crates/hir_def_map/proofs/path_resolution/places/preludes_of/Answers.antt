use Rattle.std.proofs.Common.{◌∙◌, ap, sym, map, [], ◌∷◌, None}
use Rattle.std.specs.Option.{option_and_then, option_map_or}
use Rattle.dm_base.specs.Tree.{crate_of}
use Rattle.dm_maps.specs.Readings.{setting_of, read}
use Rattle.hir_def_map.specs.Answers.{merged}
use Rattle.hir_def_map.specs.declared.path_resolution.place.Place.TheVariants.{Preludes}
use Rattle.hir_def_map.specs.Paths.{single}
use Rattle.hir_def_map.specs.Overlays.{answer_over_nothing}
use Rattle.hir_def_map.proofs.path_resolution.places.preludes_of.Goals as goal

pub returns-in-Some-block_root_of-clause-value : goal.returns-in-Some-block_root_of-clause-value
unfolding setting_of
returns-in-Some-block_root_of-clause-value c =
    let w = c.args.world.now in
    let g = setting_of w in
    let k = crate_of g.tree c.args.m in
    let asked = single g c.args.ask.now (map (read w c.args.local.now) c.args.segments.now) in
    let root_is = ap (option_and_then g.block_root) (sym c.block.ensures ∙ c.in-Some.is) ∙ sym c.block_root_of.ensures.value ∙ c.in-Some-block_root_of.is in
    c.single.ensures.value
    ∙ ap (λ n. asked (Preludes (record { krate = n; block = None }) c.in-Some-block_root_of.root)) c.krate.ensures
    ∙ sym (answer_over_nothing (asked (Preludes (record { krate = k; block = None }) c.in-Some-block_root_of.root)))
    ∙ ap (λ r. merged (map asked (option_map_or (λ f. Preludes (record { krate = k; block = None }) f ∷ []) r []))) (sym root_is)

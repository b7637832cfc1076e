use Rattle.std.proofs.Common.{◌≡◌, ◌∙◌, ◌∷◌, Bool, List, ap, cond, false, length, map, sym}
use Rattle.dm_base.specs.Names.{Name}
use Rattle.dm_base.specs.declared.ids.ModuleId.{ModuleId}
use Rattle.dm_base.specs.PerNs.{overlay}
use Rattle.dm_maps.specs.Readings.{read, setting_of}
use Rattle.hir_def_map.specs.Answers.{nothing_no}
use Rattle.hir_def_map.specs.Paths.{by_2015_rule, by_first_segment, enter, layers, missed, stop}
use Rattle.hir_def_map.specs.Walk.{in_types}
use Rattle.hir_def_map.proofs.TypeLaws.{ends-by-type}
use Rattle.hir_def_map.proofs.path_resolution.single.through_first.Goals as goal

pub returns-clause-value : goal.returns-clause-value
unfolding setting_of
returns-clause-value c =
    let w = c.args.world.now in
    let L = c.args.local.now in
    let q = c.args.ask.now in
    let t = (setting_of w).tree in
    let S = map (read w L) c.args.rest.now in
    let x = overlay (layers (setting_of w) q c.args.place (read w L c.args.segment.now) false) in
    let types = ap in_types c.first_type.ensures.value in
    let missed_is = c.is_missed-missed.ensures ∙ ap (missed q (by_2015_rule (setting_of w) q c.args.place)) types in
    c.after_first.ensures.value L
    ∙ (λ i. cond (missed_is i) nothing_no (stop (enter t) t (c.seen_from.ensures i) (types i) 1 S))
    ∙ ends-by-type w L q c.args.place c.args.segment.now c.args.rest.now c.requires.goes_on

use Rattle.std.proofs.Common.{◌∙◌, ap, sym, map, cond, true}
use Rattle.dm_base.specs.declared.ids.ModuleId.{ModuleId}
use Rattle.dm_maps.specs.Readings.{setting_of, read}
use Rattle.hir_def_map.specs.Answers.{nothing_no}
use Rattle.hir_def_map.specs.Paths.{by_first_segment, enter, stop}
use Rattle.hir_def_map.proofs.LayerLemmas.{first-names}
use Rattle.hir_def_map.proofs.path_resolution.single.by_first_segment.Goals as goal

pub returns-then-is_empty-clause-value : goal.returns-then-is_empty-clause-value
unfolding setting_of
returns-then-is_empty-clause-value c =
    let w = c.args.world.now in
    let L = c.args.local.now in
    let q = c.args.ask.now in
    let t = (setting_of w).tree in
    let S = map (read w L) c.in-Some.rest.now in
    c.after_first.ensures.value L
    ∙ ap (λ (f : ModuleId). cond c.is_missed-missed.result nothing_no (stop (enter t) t f c.layers-found.result 1 S)) c.seen_from.ensures
    ∙ sym (first-names w L q c.args.place c.in-Some.segment.now c.in-Some.rest.now c.args.segments.now c.layers-found.result true c.is_missed-missed.result c.in-Some.ensures.cases.0 (sym c.if-is_empty.true ∙ c.is_empty.ensures) c.layers-found.ensures.value c.is_missed-missed.ensures)

pub returns-else-is_empty-clause-value : goal.returns-else-is_empty-clause-value
returns-else-is_empty-clause-value c =
    let w = c.args.world.now in
    c.through_first.ensures.value
    ∙ ap (λ ns. by_first_segment (setting_of w) c.args.ask.now c.args.place (map (read w c.args.local.now) ns)) (sym c.in-Some.ensures.cases.0)

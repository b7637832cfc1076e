use Rattle.std.proofs.Common.{◌∙◌, ap, sym, true}
use Rattle.dm_base.specs.Overlays.{over_nothing}
use Rattle.dm_base.specs.PerNs.{overlay}
use Rattle.dm_maps.specs.Readings.{read, setting_of}
use Rattle.hir_def_map.specs.Paths.{extern_prelude}
use Rattle.hir_def_map.specs.LayerLaws.{layers-abs}
use Rattle.hir_def_map.proofs.path_resolution.first_segment.layers.Goals as goal

pub returns-in-Abs-clause-value : goal.returns-in-Abs-clause-value
returns-in-Abs-clause-value c =
    let w = setting_of c.args.world.now in
    let s = read c.args.world.now c.args.local.now c.args.segment.now in
    c.extern_prelude.ensures.value
    ∙ sym (over_nothing (extern_prelude s))
    ∙ ap overlay (sym (layers-abs w c.args.ask.now c.args.place s true (sym c.by_2015_rule.ensures ∙ c.if-by_2015_rule.false) c.in-Abs.is))

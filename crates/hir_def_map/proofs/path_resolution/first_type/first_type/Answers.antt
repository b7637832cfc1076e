use Rattle.std.proofs.Common.{◌∙◌, ap, false, sym}
use Rattle.dm_base.specs.declared.per_ns.PerNs.{PerNs}
use Rattle.dm_base.specs.Overlays.{over_nothing}
use Rattle.dm_base.specs.PerNs.{overlay}
use Rattle.dm_maps.specs.Readings.{read, setting_of}
use Rattle.hir_def_map.specs.Paths.{extern_prelude}
use Rattle.hir_def_map.proofs.KnownLemmas.{in_types-known}
use Rattle.hir_def_map.specs.LayerLaws.{layers-abs}
use Rattle.hir_def_map.proofs.path_resolution.first_type.first_type.Goals as goal

pub returns-then-by_2015_rule-clause-known : goal.returns-then-by_2015_rule-clause-known
returns-then-by_2015_rule-clause-known c = in_types-known c.args.world.now c.layers_by_2015_rule.result c.layers_by_2015_rule.ensures.known

pub returns-in-Abs-clause-known : goal.returns-in-Abs-clause-known
returns-in-Abs-clause-known c = in_types-known c.args.world.now c.extern_prelude.result c.extern_prelude.ensures.known

pub returns-in-Abs-clause-value : goal.returns-in-Abs-clause-value
returns-in-Abs-clause-value c =
    let w = setting_of c.args.world.now in
    let s = read c.args.world.now c.args.local.now c.args.segment.now in
    ap (λ (x : PerNs). x.types)
    (c.extern_prelude.ensures.value
    ∙ sym (over_nothing (extern_prelude s))
    ∙ ap overlay (sym (layers-abs w c.args.ask.now c.args.place s false (sym c.by_2015_rule.ensures ∙ c.if-by_2015_rule.false) c.in-Abs.is)))

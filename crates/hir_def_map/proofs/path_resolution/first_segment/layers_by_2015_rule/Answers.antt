use Rattle.std.proofs.Common.{◌∙◌, ap, sym}
use Rattle.dm_base.specs.Overlays.{over_nothing}
use Rattle.dm_base.specs.PerNs.{over, overlay}
use Rattle.dm_maps.specs.Readings.{read, setting_of}
use Rattle.hir_def_map.specs.Paths.{extern_prelude, layers_by_2015_rule, root_scope, unless_block_root}
use Rattle.hir_def_map.proofs.path_resolution.first_segment.layers_by_2015_rule.Goals as goal

pub returns-in-In-clause-value : goal.returns-in-In-clause-value
returns-in-In-clause-value c =
    let w = setting_of c.args.world.now in
    let L = c.args.local.now in
    let s = read c.args.world.now L c.args.segment.now in
    let outer = unless_block_root w c.in-In.m (extern_prelude s) in
    c.over_extern.ensures.value
    ∙ ap (λ x. over x outer) (c.root_scope.ensures.value L)
    ∙ ap (over (root_scope w c.in-In.m s)) (sym (over_nothing outer))
    ∙ ap (λ p. overlay (layers_by_2015_rule w p s)) (sym c.in-In.is)

pub returns-in-Preludes-clause-value : goal.returns-in-Preludes-clause-value
returns-in-Preludes-clause-value c =
    let w = setting_of c.args.world.now in
    let s = read c.args.world.now c.args.local.now c.args.segment.now in
    c.extern_prelude.ensures.value
    ∙ sym (over_nothing (extern_prelude s))
    ∙ ap (λ p. overlay (layers_by_2015_rule w p s)) (sym c.in-Preludes.is)

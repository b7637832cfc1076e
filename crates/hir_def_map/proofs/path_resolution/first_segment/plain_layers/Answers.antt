use Rattle.std.proofs.Common.{◌∙◌, ap, sym, true}
use Rattle.dm_base.specs.PerNs.{overlay}
use Rattle.dm_maps.specs.Readings.{setting_of, read}
use Rattle.hir_def_map.specs.Paths.{plain_layers}
use Rattle.hir_def_map.proofs.path_resolution.first_segment.plain_layers.Goals as goal

pub returns-in-Preludes-clause-value : goal.returns-in-Preludes-clause-value
unfolding read setting_of
returns-in-Preludes-clause-value c =
    let w = c.args.world.now in
    let s = read w c.args.local.now c.args.segment.now in
    c.plain_preludes.ensures.value
    ∙ ap (λ p. overlay (plain_layers (setting_of w) c.args.ask.now p s true)) (sym c.in-Preludes.is)

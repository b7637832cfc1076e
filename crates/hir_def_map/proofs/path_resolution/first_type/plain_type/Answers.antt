use Rattle.std.proofs.Common.{◌∙◌, ap, false, sym}
use Rattle.dm_base.specs.PerNs.{overlay}
use Rattle.dm_maps.specs.Readings.{read, setting_of}
use Rattle.hir_def_map.specs.Paths.{plain_layers}
use Rattle.hir_def_map.specs.declared.path_resolution.place.Place.{Place}
use Rattle.hir_def_map.proofs.TypeLaws.{preludes-types}
use Rattle.hir_def_map.proofs.path_resolution.first_type.plain_type.Goals as goal

pub returns-in-Preludes-clause-value : goal.returns-in-Preludes-clause-value
returns-in-Preludes-clause-value c =
    let w = setting_of c.args.world.now in
    let s = read c.args.world.now c.args.local.now c.args.segment.now in
    c.prelude_type.ensures.value
    ∙ preludes-types w c.args.ask.now c.in-Preludes.id s
    ∙ ap (λ (p : Place). (overlay (plain_layers w c.args.ask.now p s false)).types) (sym c.in-Preludes.is)

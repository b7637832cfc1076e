use Rattle.std.proofs.Common.{◌∙◌, ap}
use Rattle.dm_maps.specs.Readings.{setting_of}
use Rattle.hir_def_map.specs.Paths.{of_prelude}
use Rattle.hir_def_map.proofs.path_resolution.layers.macro_use_layer.Goals as goal

pub returns-clause-value : goal.returns-clause-value
returns-clause-value c = λ L.
    c.of_prelude.ensures.value ∙ ap (of_prelude (setting_of c.args.world.now) c.args.expected) (c.macro_use_prelude.ensures.value L)

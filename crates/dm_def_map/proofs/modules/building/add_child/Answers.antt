use Rattle.std.proofs.Common.{◌∙◌, ap}
use Rattle.dm_def_map.specs.Maps.{Modules, module_at}
use Rattle.dm_def_map.proofs.modules.building.add_child.Goals as goal

pub put_last-requires : goal.put_last-requires
put_last-requires c = ap (λ (es : Modules). module_at es c.args.m) c.modules.view_is ∙ c.requires.free

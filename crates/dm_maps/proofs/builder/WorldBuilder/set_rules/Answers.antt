use Rattle.std.proofs.Common.{subst, sym}
use Rattle.dm_maps.specs.First.{IsChecked}
use Rattle.dm_maps.proofs.builder.WorldBuilder.set_rules.Goals as goal

pub returns-clause-checked : goal.returns-clause-checked
returns-clause-checked c = λ known. subst IsChecked (sym c.self.view_is) known

use Rattle.std.proofs.Common.{◌^◌}
use Rattle.dm_maps.proofs.ChainLemmas.{member-add}
use Rattle.dm_maps.proofs.ladders.laws.moves_add.Goals as goal

pub returns : goal.returns
returns g c = λ j k. member-add (g.T.ModuleTree.tree c.args._tree.now) c.requires.lawful (2 ^ j) (2 ^ k) c.args._m c.requires.known

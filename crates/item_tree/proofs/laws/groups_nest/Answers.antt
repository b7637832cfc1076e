use Rattle.item_tree.proofs.Nested.{pairs_nest}
use Rattle.item_tree.proofs.laws.groups_nest.Goals as goal

pub returns : goal.returns
returns c = pairs_nest

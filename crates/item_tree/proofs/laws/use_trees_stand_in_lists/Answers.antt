use Rattle.item_tree.proofs.Listed.{stand_in_lists}
use Rattle.item_tree.proofs.laws.use_trees_stand_in_lists.Goals as goal

pub returns : goal.returns
returns c = stand_in_lists

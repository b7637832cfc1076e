use Rattle.std.proofs.Common.{refl}
use Rattle.item_tree.specs.UseTrees.{first_use_tree, step_of}
use Rattle.item_tree.proofs.items.item_rows.difficult_uses.Goals as goal

pub returns : goal.returns
unfolding first_use_tree step_of
returns c = refl

use Rattle.std.proofs.Common.{refl}
use Rattle.item_tree.proofs.items.item_rows.arms_of_cfg_if.Goals as goal

pub returns : goal.returns
returns c = refl

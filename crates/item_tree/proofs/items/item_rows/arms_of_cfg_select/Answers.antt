use Rattle.std.proofs.Common.{refl}
use Rattle.item_tree.proofs.items.item_rows.arms_of_cfg_select.Goals as goal

pub returns-clause-arms : goal.returns-clause-arms
returns-clause-arms c = refl

pub returns-clause-no_braces : goal.returns-clause-no_braces
returns-clause-no_braces c = refl

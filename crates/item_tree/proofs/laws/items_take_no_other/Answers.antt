use Rattle.std.proofs.Common.{false}
use Rattle.item_tree.specs.Heads.{nothing}
use Rattle.item_tree.proofs.NoneTaken.{none_taken}
use Rattle.item_tree.proofs.laws.items_take_no_other.Goals as goal

pub returns : goal.returns
returns c = λ kind ts. none_taken kind nothing 0 false ts

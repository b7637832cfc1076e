use Rattle.item_tree.proofs.Segments.{filter_between}
use Rattle.item_tree.proofs.laws.numbers_between_stand_between.Goals as goal

pub returns : goal.returns
returns g c = filter_between

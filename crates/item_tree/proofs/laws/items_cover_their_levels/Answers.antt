use Rattle.item_tree.proofs.Covered.{level_covered, level_nests}
use Rattle.item_tree.proofs.laws.items_cover_their_levels.Goals as goal

pub returns-clause-covered : goal.returns-clause-covered
returns-clause-covered c = level_covered

pub returns-clause-nested : goal.returns-clause-nested
returns-clause-nested c = level_nests

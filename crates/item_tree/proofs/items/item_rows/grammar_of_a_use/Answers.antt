use Rattle.std.proofs.Common.{refl}
use Rattle.item_tree.specs.UseTrees.{first_use_tree, step_of}
use Rattle.item_tree.proofs.items.item_rows.grammar_of_a_use.Goals as goal

pub returns-clause-imports : goal.returns-clause-imports
unfolding first_use_tree step_of
returns-clause-imports c = refl

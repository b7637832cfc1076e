use Rattle.item_tree.proofs.NoErrors.{no_errors}
use Rattle.item_tree.proofs.laws.whole_texts_have_no_errors.Goals as goal

pub returns : goal.returns
returns c = no_errors

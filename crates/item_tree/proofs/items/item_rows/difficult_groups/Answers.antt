use Rattle.std.proofs.Common.{refl}
use Rattle.item_tree.proofs.items.item_rows.difficult_groups.Goals as goal

pub returns : goal.returns
returns c = record { partners = refl; unclosed = refl }

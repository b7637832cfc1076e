use Rattle.std.proofs.Common.{◌∙◌, ap}
use Rattle.item_tree.specs.UseLeaves.{leaves_of}
use Rattle.item_tree.proofs.UseLaw.{leaves_of_written}
use Rattle.item_tree.proofs.UseWritten.{rows_of_written}
use Rattle.item_tree.proofs.items.use_tree.use_trees.Goals as goal

pub returns-clause-written : goal.returns-clause-written
returns-clause-written c t w =
    ap (leaves_of c.args.lexemes.now) (c.in_ok-trees.ensures ∙ rows_of_written c.args.lexemes.now c.args.range t w) ∙ leaves_of_written c.args.lexemes.now c.args.range t w

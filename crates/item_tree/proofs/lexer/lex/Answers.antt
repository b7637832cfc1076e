use Rattle.std.proofs.Common.{arith, true}
use Rattle.item_tree.proofs.OneToken.{tokens_of_all}
use Rattle.item_tree.proofs.OneCut.{lengths_add_up, one_cut}
use Rattle.item_tree.proofs.lexer.lex.Goals as goal

pub returns : goal.returns
returns c =
    let all = tokens_of_all c.args.edition c.loop-at.at_start c.loop-at.tokens.items c.args.text.now c.loop-at.at (omega arith) c.loop-at.invariant.checked in
    record {
      cut = all;
      whole = lengths_add_up c.args.edition true c.loop-at.tokens.items c.args.text.now all;
      only = λ us is. one_cut c.args.edition true c.loop-at.tokens.items us c.args.text.now all is;
    }

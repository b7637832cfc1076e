use Rattle.std.proofs.Common.{arith, ap, ◌++◌, ◌∙◌, drop, List}
use Rattle.item_tree.specs.Trees.{trees_from, trees_of}
use Rattle.item_tree.specs.declared.lexer.trees.Tree.{Tree}
use Rattle.item_tree.proofs.Skipped.{next_tree, all_trees}
use Rattle.item_tree.proofs.lexer.trees.trees.Goals as goal
use Rattle.item_tree.proofs.lexer.trees.trees.Goals.{then-loop-at-test+else-at-lexemes, else-loop-at-test}

pub loop-at-preserved : goal.loop-at-preserved
loop-at-preserved c =
    let tree = c.tree_of-tree.result in
    record {
      read = ap (λ (ts : List Tree). ts ++ trees_from c.args.partners.now c.args.end 0 tree.behind (drop tree.behind c.args.lexemes.now)) c.in_ok-push.ensures.items
          ∙ (next_tree c.args.lexemes.now c.args.partners.now c.args.end c.loop-at.at _ _ tree c.loop-at.trees.items c.loop-at-test.true c.if-at-lexemes.true
          c.partner_at.ensures c.tree_of-tree.ensures.exact c.tree_of-tree.ensures.some ∙ c.loop-at.invariant.read);
    }

pub returns : goal.returns
returns c =
    let whole = all_trees c.args.lexemes.now c.args.partners.now c.args.end c.loop-at.at c.loop-at.trees.items (trees_of c.args.lexemes.now c.args.partners.now c.args.from c.args.end) in
    elim c.loop-at-test.branch [
      | then-loop-at-test+else-at-lexemes w ↦ whole (λ before. w.if-at-lexemes.false) c.loop-at.invariant.read
      | else-loop-at-test w ↦ whole (λ before. let behind = w.loop-at-test.false in omega arith) c.loop-at.invariant.read
    ]

use Rattle.std.proofs.Common.{◌≡◌, ◌-◌, ◌∙◌, arith, drop, length, take, length-drop}
use Rattle.std.proofs.lemmas.List.{take_all}
use Rattle.item_tree.specs.UseTrees.{use_trees_of}
use Rattle.item_tree.proofs.NextUseTree.{next_use_tree, all_use_trees}
use Rattle.item_tree.proofs.items.use_tree.read_use_trees.Goals as goal
use Rattle.item_tree.proofs.items.use_tree.read_use_trees.Goals.{then-loop-at-test+else-at-lexemes, else-loop-at-test}

pub loop-at-preserved : goal.loop-at-preserved
loop-at-preserved c =
    let lexemes = c.args.lexemes.now in
    let at = c.loop-at.at in
    let whole : take (length lexemes - at) (drop at lexemes) ≡ drop at lexemes = take_all (length lexemes - at) (drop at lexemes) (omega (arith, length-drop at lexemes)) in
    record {
      read = next_use_tree lexemes _ c.args.range.behind c.loop-at.trees.items _ c.push_some.new.trees.items c.loop-at.parent at c.step_of-step.result c.if-at-lexemes.true c.loop-at-test.true whole c.as_slice.ensures.value
          c.step_of-step.ensures.exact c.step_of-step.ensures.forward c.in_ok-push_some.ensures ∙ c.loop-at.invariant.read;
    }

pub returns : goal.returns
returns c =
    let whole = all_use_trees c.args.lexemes.now c.args.range.behind c.loop-at.trees.items (use_trees_of c.args.lexemes.now c.args.range) c.loop-at.parent c.loop-at.at in
    elim c.loop-at-test.branch [
      | then-loop-at-test+else-at-lexemes w ↦ whole (λ before. w.if-at-lexemes.false) c.loop-at.invariant.read
      | else-loop-at-test w ↦ whole (λ before. let behind = w.loop-at-test.false in omega arith) c.loop-at.invariant.read
    ]

use Rattle.std.proofs.Common.{◌≡◌, ◌+◌, ◌-◌, ◌≤◌, length, drop}
use Rattle.item_tree.specs.CfgSelects.{before_arrow}
use Rattle.item_tree.specs.Heads.{nothing}
use Rattle.item_tree.proofs.cfg.cfg_select.before_arrow.Given as goal

abbrev pub invariant-loop-at : goal.invariant-loop-at
invariant-loop-at l = record {
  in_range : l.at ≤ length l.trees;
  counted : l.at + before_arrow l.before (drop l.at l.trees) ≡ before_arrow nothing l.trees;
}

abbrev pub decreases-loop-at : goal.decreases-loop-at
decreases-loop-at l = length l.trees - l.at

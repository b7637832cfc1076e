use Rattle.std.proofs.Common.{◌≡◌, ◌≤◌, length}
use Rattle.macro_rules.specs.Walks.{walked, walk}
use Rattle.macro_rules.proofs.walk.walk_tokens.Given as goal

abbrev pub invariant-loop-left : goal.invariant-loop-left
invariant-loop-left l = record {
  within : l.from ≤ length l.log.items;
  same : walked l.bytes l.rows l.tokens l.steps l.left l.from l.place l.log.items ≡ walk l.bytes l.rows l.tokens l.steps l.turns;
}

abbrev pub decreases-loop-left : goal.decreases-loop-left
decreases-loop-left l = l.left

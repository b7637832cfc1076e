use Rattle.std.proofs.Common.{◌≡◌, ◌-◌, ◌≤◌, length}
use Rattle.macro_rules.specs.Threads.{taken}
use Rattle.macro_rules.proofs.matching.take_token.Given as goal

abbrev pub invariant-loop-at : goal.invariant-loop-at
invariant-loop-at l = record {
  grown : length l.fn.log.items ≤ length l.log.items;
  begun : l.behind ≡ length l.fn.log.items;
  same : taken l.bytes l.rows l.token l.behind l.place (l.behind - l.at) l.at l.log.items ≡ taken l.bytes l.rows l.token l.behind l.place (l.behind - l.from) l.from l.fn.log.items;
}

abbrev pub decreases-loop-at : goal.decreases-loop-at
decreases-loop-at l = l.behind - l.at

use Rattle.std.proofs.Common.{◌≡◌, drop}
use Rattle.macro_rules.specs.Writings.{unled}
use Rattle.macro_rules.proofs.writing.levels.unlead.Given as goal

abbrev pub invariant-loop-leader : goal.invariant-loop-leader
invariant-loop-leader l = unled (drop l.leader-index l.leaders) l.current.items ≡ unled l.leaders l.fn.current.items

use Rattle.std.proofs.Common.{◌≡◌, drop}
use Rattle.macro_rules.specs.Writings.{led}
use Rattle.macro_rules.proofs.writing.levels.lead.Given as goal

abbrev pub invariant-loop-leader : goal.invariant-loop-leader
invariant-loop-leader l = led (drop l.leader-index l.leaders) l.index l.current.items ≡ led l.leaders l.index l.fn.current.items

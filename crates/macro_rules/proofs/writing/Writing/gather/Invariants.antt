use Rattle.std.proofs.Common.{◌≡◌, drop}
use Rattle.macro_rules.specs.Writings.{gathered}
use Rattle.macro_rules.proofs.writing.Writing.gather.Given as goal

abbrev pub invariant-loop-row : goal.invariant-loop-row
invariant-loop-row l = gathered l.matcher l.table l.from (drop l.row-index l.body) l.self ≡ gathered l.matcher l.table l.from l.body l.fn.self

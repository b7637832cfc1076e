use Rattle.std.proofs.Common.{◌≡◌}
use Rattle.macro_rules.specs.Writings.{steps, transcribed}
use Rattle.macro_rules.proofs.writing.transcribing.transcribe.Given as goal

abbrev pub invariant-loop-left : goal.invariant-loop-left
invariant-loop-left l = steps l.rows l.matcher l.table l.input l.left l.writing ≡ transcribed l.rows l.matcher l.table l.input l.limit

abbrev pub decreases-loop-left : goal.decreases-loop-left
decreases-loop-left l = l.left

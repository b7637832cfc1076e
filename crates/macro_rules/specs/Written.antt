-- What was written by a transcriber.
use Rattle.std.specs.Prelude.{ℕ, List, Option}
use Rattle.macro_rules.specs.declared.token.Token.{Token}
use Rattle.macro_rules.specs.declared.writing.Leader.{Leader}
use Rattle.macro_rules.specs.declared.writing.Level.{Level}
use Rattle.macro_rules.specs.declared.writing.WriteFault.{WriteFault}

-- the tokens, the repetitions that are open, the innermost last, what leads them, the iterations of those, and the next position
pub record Written : Type 0 where
  pub tokens : List Token
  pub levels : List Level
  pub leaders : List Leader
  pub current : List (Option ℕ)
  pub at : ℕ
  pub fault : Option WriteFault

-- What is said beside an answer.
use Rattle.std.specs.Prelude.{ℕ, List}

-- lines that say what could not be read, and lines that say what else is not known
pub record Said : Type 0 where
  pub lines : List (List ℕ)
  pub warnings : List (List ℕ)

-- Files that nothing reaches.
use Rattle.std.specs.Prelude.{ℕ, List}
use Rattle.defmap_inputs.specs.declared.orphans.LeftOut.{LeftOut}

-- the paths of the files, and the reason of each file and folder that was left out
pub record Found : Type 0 where
  pub files : List (List ℕ)
  pub left_out : List LeftOut

-- Words in colours, as terminals show them: an escape, `[`, the number of the colour and `m`; and behind the word 0 for none.
use Rattle.std.specs.Prelude.{ℕ, List, ◌∷◌, ◌++◌, codes}
use Rattle.defmap_answers.specs.declared.paint.Paint.{Paint}
use Rattle.defmap_answers.specs.declared.paint.Paint.TheVariants.{Kind, Name, Visibility, Unknown, Wrong}
use Rattle.defmap_answers.specs.declared.paint.Pen.{Pen}
use Rattle.defmap_answers.specs.declared.paint.Pen.TheVariants.{Plain, Coloured}

-- blue, bold, green, yellow, bold red
abbrev pub code_of : Paint → List ℕ
code_of Kind = codes "34"
code_of Name = codes "1"
code_of Visibility = codes "32"
code_of Unknown = codes "33"
code_of Wrong = codes "1;31"

abbrev pub painted : Paint → List ℕ → List ℕ
painted paint word = (27 ∷ codes "[") ++ code_of paint ++ codes "m" ++ word ++ (27 ∷ codes "[0m")

-- a word as a pen writes it
abbrev pub written : Pen → Paint → List ℕ → List ℕ
written Plain paint word = word
written Coloured paint word = painted paint word

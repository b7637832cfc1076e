-- What a run of a script prints, and how it ends.
use Rattle.std.specs.Prelude.{◌≡◌, ◌⊎◌, ℕ, ◌+◌, ◌==◌, List, [], ◌∷◌, ◌++◌, Some, None, Ok}
use Rattle.std.specs.List.{slice_split}
use Rattle.defmap_script.specs.declared.fault.Fault.{Fault}
use Rattle.defmap_script.specs.declared.fault.Fault.TheVariants.{OutOfMemory}
use Rattle.defmap_script.specs.declared.script.Lines.{Lines}
use Rattle.defmap_script.specs.declared.script.RunEnd.{RunEnd}
use Rattle.defmap_script.specs.declared.script.RunEnd.TheVariants as ends
use Rattle.defmap_script.specs.Engine.{Tool, IsLineStep}
use Rattle.defmap_script.specs.Faults.{refusal, IsRefused}

-- the lines of an input, separated by line feeds
abbrev pub lines : List ℕ → List (List ℕ)
lines input = slice_split (λ b. b == 10) input

abbrev pub lines_left : Lines → List (List ℕ)
lines_left l = elim l.rest [ None ↦ [] | Some bytes ↦ lines bytes.now ]

-- out of memory is an end of its own
abbrev pub end_of : Fault → RunEnd
end_of OutOfMemory = ends.OutOfMemory
end_of _ = ends.Refused

-- What the lines from number n on print from there, and how the run ends. Each line prints what it answers, whole. The
-- first that is refused ends the run with a line that names why; that line is missing where it cannot be allocated.
abbrev pub Runs : Tool → ℕ → List (List ℕ) → List ℕ → RunEnd → Type 0
Runs t n [] printed end = (printed ≡ []) × (end ≡ ends.Done)
Runs t n (l ∷ ls) printed end =
    ((s : Tool × List ℕ) × (more : List ℕ) × IsLineStep t l (Ok s) × (printed ≡ s.1 ++ more) × Runs s.0 (n + 1) ls more end)
    ⊎ ((f : Fault) × IsRefused (IsLineStep t l) f × ((printed ≡ refusal n f) ⊎ (printed ≡ [])) × (end ≡ end_of f))

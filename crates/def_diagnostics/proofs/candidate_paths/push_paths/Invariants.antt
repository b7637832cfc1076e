use Rattle.std.proofs.Common.{◌≡◌, ◌++◌, drop}
use Rattle.std.specs.Prelude.{map}
use Rattle.def_diagnostics.specs.CandidatePaths.{bytes_of, path_of}
use Rattle.def_diagnostics.proofs.candidate_paths.push_paths.Given as goal

abbrev pub invariant-loop-candidate : goal.invariant-loop-candidate
invariant-loop-candidate l =
    map bytes_of l.paths.items ++ map path_of (drop l.candidate-index l.candidates)
    ≡ map bytes_of l.fn.paths.items ++ map path_of l.candidates

use Rattle.std.proofs.Common.{◌≡◌, drop}
use Rattle.std.specs.List.{list_any}
use Rattle.def_diagnostics.specs.MissingFiles.{is_there}
use Rattle.def_diagnostics.proofs.missing_files.is_any_there.Given as goal

abbrev pub invariant-loop-candidate : goal.invariant-loop-candidate
invariant-loop-candidate l =
    list_any (is_there l.files) (drop l.candidate-index l.candidates) ≡ list_any (is_there l.files) l.candidates

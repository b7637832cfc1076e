use Rattle.std.proofs.Common.{◌≡◌, ◌++◌, drop}
use Rattle.std.specs.List.{flat_map}
use Rattle.std.specs.Prelude.{map}
use Rattle.def_diagnostics.specs.CandidatePaths.{bytes_of}
use Rattle.def_diagnostics.specs.MissingFiles.{missing_of}
use Rattle.def_diagnostics.proofs.missing_files.missing_files.Given as goal

abbrev pub invariant-loop-fault : goal.invariant-loop-fault
invariant-loop-fault l =
    map bytes_of l.paths.items ++ flat_map (missing_of l.files) (drop l.fault-index l.list.faults)
    ≡ flat_map (missing_of l.files) l.list.faults

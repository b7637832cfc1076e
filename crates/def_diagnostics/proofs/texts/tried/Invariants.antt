use Rattle.std.proofs.Common.{◌≡◌, ◌++◌, drop}
use Rattle.std.specs.Prelude.{codes, map, string_bytes}
use Rattle.def_diagnostics.specs.CandidatePaths.{bytes_of}
use Rattle.def_diagnostics.specs.Texts.{tried, tried_from}
use Rattle.def_diagnostics.proofs.texts.tried.Given as goal

abbrev pub invariant-loop-place : goal.invariant-loop-place
invariant-loop-place l =
    string_bytes l.text ++ tried_from l.place (map bytes_of (drop l.place l.paths)) ≡ tried (map bytes_of l.paths)

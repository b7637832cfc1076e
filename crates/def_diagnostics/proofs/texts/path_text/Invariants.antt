use Rattle.std.proofs.Common.{◌≡◌, ◌++◌, drop}
use Rattle.std.specs.Prelude.{string_bytes}
use Rattle.def_diagnostics.specs.Texts.{path_text, segments_from}
use Rattle.def_diagnostics.proofs.texts.path_text.Given as goal

abbrev pub invariant-loop-place : goal.invariant-loop-place
invariant-loop-place l =
    string_bytes l.text ++ segments_from l.place (drop l.place l.path.segments) ≡ path_text l.path

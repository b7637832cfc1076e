use Rattle.std.proofs.Common.{◌≡◌, ◌++◌, drop}
use Rattle.std.specs.Prelude.{map, string_bytes}
use Rattle.def_diagnostics.specs.CandidatePaths.{bytes_of}
use Rattle.def_diagnostics.specs.Texts.{as_text}
use Rattle.def_diagnostics.proofs.told_in_maps.texts_of.Given as goal

abbrev pub invariant-loop-path : goal.invariant-loop-path
invariant-loop-path l =
    map string_bytes l.texts.items ++ map as_text (map bytes_of (drop l.path-index l.paths))
    ≡ map as_text (map bytes_of l.paths)

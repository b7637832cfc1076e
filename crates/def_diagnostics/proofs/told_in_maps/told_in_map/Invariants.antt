use Rattle.std.proofs.Common.{◌≡◌, ◌++◌, drop}
use Rattle.std.specs.List.{flat_map}
use Rattle.std.specs.Prelude.{map}
use Rattle.def_diagnostics.specs.ToldInMaps.{calls_of, told_behind, told_by, told_from}
use Rattle.def_diagnostics.proofs.told_in_maps.told_in_map.Given as goal

abbrev pub invariant-loop-diagnostic : goal.invariant-loop-diagnostic
invariant-loop-diagnostic l =
    (map told_by l.found.diagnostics.items
    ++ told_behind l.krate l.first_row l.found.calls.items (drop l.diagnostic-index l.diagnostics)
    ≡ told_from l.krate l.first_row l.diagnostics)
    × (l.found.calls.items ++ flat_map calls_of (drop l.diagnostic-index l.diagnostics)
    ≡ flat_map calls_of l.diagnostics)

use Rattle.std.proofs.Common.{◌≡◌, ◌++◌, drop}
use Rattle.std.specs.List.{flat_map}
use Rattle.def_diagnostics.specs.UnresolvedImports.{of_place}
use Rattle.def_diagnostics.proofs.unresolved_imports.unresolved_imports.Given as goal

abbrev pub invariant-loop-place : goal.invariant-loop-place
invariant-loop-place l = l.found.items ++ flat_map (of_place l.imports l.uses) (drop l.place-index l.places) ≡ flat_map (of_place l.imports l.uses) l.places

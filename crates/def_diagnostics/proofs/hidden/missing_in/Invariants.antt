use Rattle.std.proofs.Common.{◌≡◌, drop}
use Rattle.def_diagnostics.specs.Hidden.{missing_from, missing_in}
use Rattle.def_diagnostics.proofs.hidden.missing_in.Given as goal

abbrev pub invariant-loop-place : goal.invariant-loop-place
invariant-loop-place l = missing_from l.world l.m l.path l.place (drop l.place l.path.segments) ≡ missing_in l.world l.m l.path

use Rattle.std.proofs.Common.{◌≡◌}
use Rattle.std.specs.Prelude.{string_bytes}
use Rattle.def_diagnostics.specs.Texts.{outwards}
use Rattle.def_diagnostics.proofs.texts.outwards.Given as goal

abbrev pub invariant-loop-step : goal.invariant-loop-step
invariant-loop-step l = string_bytes l.text ≡ outwards l._step

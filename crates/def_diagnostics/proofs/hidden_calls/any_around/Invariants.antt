use Rattle.std.proofs.Common.{◌≡◌, drop}
use Rattle.std.specs.List.{list_any}
use Rattle.def_diagnostics.specs.HiddenCalls.{is_around}
use Rattle.def_diagnostics.proofs.hidden_calls.any_around.Given as goal

abbrev pub invariant-loop-call : goal.invariant-loop-call
invariant-loop-call l = list_any (is_around l.world l.m) (drop l.call-index l.calls) ≡ list_any (is_around l.world l.m) l.calls

use Rattle.std.proofs.Common.{◌≡◌, ◌++◌, drop}
use Rattle.std.specs.Prelude.{map, take}
use Rattle.def_diagnostics.specs.Lines.{message_of}
use Rattle.def_diagnostics.proofs.message.push_messages.Given as goal

abbrev pub invariant-loop-diagnostic : goal.invariant-loop-diagnostic
invariant-loop-diagnostic l = record {
  left : l.messages.items ++ map (message_of l.list) (drop l.diagnostic-index l.diagnostics) ≡ l.fn.messages.items ++ map (message_of l.list) l.diagnostics;
  added : l.messages.items ≡ l.fn.messages.items ++ map (message_of l.list) (take l.diagnostic-index l.diagnostics);
}

use Rattle.std.proofs.Common.{◌≡◌, ◌++◌, drop}
use Rattle.std.specs.List.{flat_map}
use Rattle.std.specs.Prelude.{IfSome, string_bytes}
use Rattle.def_diagnostics.specs.Lines.{IsSeenIn, line_of}
use Rattle.def_diagnostics.proofs.lines.lines_of.Given as goal

abbrev pub invariant-loop-message : goal.invariant-loop-message
invariant-loop-message l =
    (string_bytes l.written.out ++ flat_map (line_of l.files) (drop l.message-index l.messages)
    ≡ flat_map (line_of l.files) l.messages)
    × IfSome l.written.last (IsSeenIn l.files)

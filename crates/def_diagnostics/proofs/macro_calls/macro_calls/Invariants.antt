use Rattle.std.proofs.Common.{◌≡◌, ◌++◌, drop}
use Rattle.std.specs.List.{flat_map}
use Rattle.def_diagnostics.specs.MacroCalls.{call_of}
use Rattle.def_diagnostics.proofs.macro_calls.macro_calls.Given as goal

abbrev pub invariant-loop-item : goal.invariant-loop-item
invariant-loop-item l =
    l.calls.items ++ flat_map (call_of l.world l.list l.files l.ids) (drop l.item-index l.items) ≡ flat_map (call_of l.world l.list l.files l.ids) l.items

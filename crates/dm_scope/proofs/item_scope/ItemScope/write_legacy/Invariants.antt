use Rattle.std.proofs.Common.{◌≡◌, ◌++◌, drop, string_bytes}
use Rattle.std.specs.List.{flat_map}
use Rattle.dm_scope.specs.Dumps.{legacy_line}
use Rattle.dm_scope.specs.Sorted.{seen}
use Rattle.dm_scope.proofs.item_scope.ItemScope.write_legacy.Given as goal

-- what is written, with the lines of what is left, is all
abbrev pub invariant-loop-name : goal.invariant-loop-name
invariant-loop-name g l =
    let line = legacy_line (g.T.ScopeTables.tables l.tables) l.self in
    string_bytes l.text ++ flat_map line (seen (drop l.name-index l.names)) ≡ string_bytes l.fn.text ++ flat_map line (seen l.names)

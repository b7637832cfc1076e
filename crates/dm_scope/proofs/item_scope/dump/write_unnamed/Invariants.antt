use Rattle.std.proofs.Common.{◌≡◌, ◌++◌, drop, string_bytes}
use Rattle.std.specs.List.{flat_map}
use Rattle.dm_scope.specs.Dumps.{unnamed_line}
use Rattle.dm_scope.proofs.item_scope.dump.write_unnamed.Given as goal

-- what is written, with what is left, is all
abbrev pub invariant-loop-unnamed : goal.invariant-loop-unnamed
invariant-loop-unnamed g l =
    let text = unnamed_line (g.T.ScopeTables.tables l.tables) in
    string_bytes l.text ++ flat_map text (drop l.unnamed-index l.traits) ≡ string_bytes l.fn.text ++ flat_map text l.traits

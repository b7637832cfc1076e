use Rattle.std.proofs.Common.{◌≡◌, ◌++◌, drop, string_bytes}
use Rattle.std.specs.List.{flat_map}
use Rattle.dm_scope.specs.Dumps.{macro_word}
use Rattle.dm_scope.proofs.item_scope.dump.write_macros.Given as goal

-- what is written, with what is left, is all
abbrev pub invariant-loop-id : goal.invariant-loop-id
invariant-loop-id g l =
    let text = macro_word (g.T.ScopeTables.tables l.tables) in
    string_bytes l.text ++ flat_map text (drop l.id-index l.macros) ≡ string_bytes l.fn.text ++ flat_map text l.macros

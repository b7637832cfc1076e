use Rattle.std.proofs.Common.{◌≡◌, ◌++◌, map, take, drop, true}
use Rattle.dm_retry.specs.Rounds.{marked}
use Rattle.dm_retry.proofs.worklist.mark_all_of.Given as goal

abbrev pub invariant-loop-import : goal.invariant-loop-import
invariant-loop-import l =
    let mark = marked true in
    l.imports ≡ map mark (take l.import-index l.initial.imports) ++ drop l.import-index l.initial.imports

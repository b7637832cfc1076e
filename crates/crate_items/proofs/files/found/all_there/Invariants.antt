use Rattle.std.proofs.Common.{◌≡◌, ◌++◌, drop}
use Rattle.crate_items.specs.Modules.{there_from}
use Rattle.crate_items.proofs.files.found.all_there.Given as goal

abbrev pub invariant-loop-place : goal.invariant-loop-place
invariant-loop-place l = l.found.items ++ there_from l.files l.place (drop l.place l.candidates) ≡ there_from l.files 0 l.candidates

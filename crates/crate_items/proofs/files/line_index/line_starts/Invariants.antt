use Rattle.std.proofs.Common.{◌≡◌, ◌++◌, drop}
use Rattle.crate_items.specs.LineIndexes.{starts_from}
use Rattle.crate_items.proofs.files.line_index.line_starts.Given as goal

abbrev pub invariant-loop-place : goal.invariant-loop-place
invariant-loop-place l = l.starts.items ++ starts_from l.place (drop l.place l.text) ≡ starts_from 0 l.text

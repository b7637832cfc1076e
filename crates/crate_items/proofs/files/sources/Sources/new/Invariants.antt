use Rattle.std.proofs.Common.{◌≡◌, length}
use Rattle.crate_items.proofs.SourceLemmas.{IsEmpty}
use Rattle.crate_items.proofs.files.sources.Sources.new.Given as goal

abbrev pub invariant-loop : goal.invariant-loop
invariant-loop l = (length l.read.items ≡ l.counter) × IsEmpty l.read.items

use Rattle.std.proofs.Common.{◌≡◌, ◌++◌, ℕ, List}
use Rattle.std.specs.Io.KnownBytes.{Consumes}
use Rattle.defmap_script.proofs.read.read_all.Given as goal

-- what was read so far lies behind what was there, and the reader has given those bytes
abbrev pub invariant-loop : goal.invariant-loop
invariant-loop g l = (bs : List ℕ) × (l.input.items ≡ l.fn.input.items ++ bs) × Consumes (g.R.Read.remaining l.fn.reader) (g.R.Read.remaining l.reader) bs

use Rattle.std.proofs.Common.{◌^◌, ◌*◌, ◌%◌, refl, arith, bit_and}
use Rattle.std.proofs.lemmas.Nat.{and_le_l}
use Rattle.dm_retry.proofs.FirstLemmas.{lowest-none, lowest-some}
use Rattle.dm_retry.proofs.worklist.bits.lowest.Goals as goal

pub returns-then-high-eq0 : goal.returns-then-high-eq0
returns-then-high-eq0 c = lowest-none c.args.word _ c.args.from c.requires refl c.ranges.word.fits c.if-high-eq0.true

pub returns-else-high-eq0 : goal.returns-else-high-eq0
returns-else-high-eq0 c =
    lowest-some c.args.word (bit_and c.args.word (18446744073709551615 * 2 ^ c.args.from % 18446744073709551616)) c.args.from c.requires refl
    (omega (arith, and_le_l c.args.word (18446744073709551615 * 2 ^ c.args.from % 18446744073709551616), c.ranges.word.fits)) (omega arith)

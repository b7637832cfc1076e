use Rattle.std.proofs.Common.{◌∙◌, ◌*◌, ◌^◌, ◌%◌, ◌/◌, ap, bit_and, w64}
use Rattle.std.proofs.lemmas.List.{get_or_default}
use Rattle.std.specs.Int.{bit_not}
use Rattle.dm_retry.proofs.BitLemmas.{removed, emptied}
use Rattle.dm_retry.proofs.worklist.bits.remove.Goals as goal

pub returns-clause-has : goal.returns-clause-has
returns-clause-has c =
    removed c.args.words.now.items c.args.k _ c.requires
    (ap (λ v. bit_and v (bit_not w64 (1 * 2 ^ (c.args.k % 64) % 2 ^ 64))) (c.index_mut.ensures.value ∙ get_or_default c.args.words.now.items (c.args.k / 64) c.index_mut.result.now 0 c.requires))

pub returns-clause-empty : goal.returns-clause-empty
returns-clause-empty c =
    emptied c.args.words.now.items c.args.k _ c.requires
    (ap (λ v. bit_and v (bit_not w64 (1 * 2 ^ (c.args.k % 64) % 2 ^ 64))) (c.index_mut.ensures.value ∙ get_or_default c.args.words.now.items (c.args.k / 64) c.index_mut.result.now 0 c.requires))

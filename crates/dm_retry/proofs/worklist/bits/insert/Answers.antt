use Rattle.std.proofs.Common.{◌∙◌, ◌*◌, ◌^◌, ◌%◌, ◌/◌, ap, bit_or}
use Rattle.std.proofs.lemmas.List.{get_or_default}
use Rattle.dm_retry.proofs.BitLemmas.{inserted, filled}
use Rattle.dm_retry.proofs.worklist.bits.insert.Goals as goal

pub returns-clause-has : goal.returns-clause-has
returns-clause-has c =
    inserted c.args.words.now.items c.args.k _ c.requires
    (ap (λ v. bit_or v (1 * 2 ^ (c.args.k % 64) % 2 ^ 64)) (c.index_mut.ensures.value ∙ get_or_default c.args.words.now.items (c.args.k / 64) c.index_mut.result.now 0 c.requires))

pub returns-clause-filled : goal.returns-clause-filled
returns-clause-filled c =
    filled c.args.words.now.items c.args.k _ c.requires
    (ap (λ v. bit_or v (1 * 2 ^ (c.args.k % 64) % 2 ^ 64)) (c.index_mut.ensures.value ∙ get_or_default c.args.words.now.items (c.args.k / 64) c.index_mut.result.now 0 c.requires))

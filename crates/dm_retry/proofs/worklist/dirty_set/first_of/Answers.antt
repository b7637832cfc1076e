use Rattle.dm_retry.proofs.FirstLemmas.{next-word, no-word}
use Rattle.dm_retry.proofs.worklist.dirty_set.first_of.Goals as goal

pub returns-in-None : goal.returns-in-None
returns-in-None c = no-word c.args.top.now c.args.words.now c.args.from c.requires.summary c.in_default.ensures.first c.in-None.ensures

pub returns-in-Some-first : goal.returns-in-Some-first
returns-in-Some-first c =
    next-word c.args.top.now c.args.words.now c.args.from c.in-Some-first.j c.first_in_word-in-Some-first.result c.requires.summary
    c.in_default.ensures.first c.in-Some-first.ensures c.first_in_word-in-Some-first.ensures.first c.first_in_word-in-Some-first.ensures.none

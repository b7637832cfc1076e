use Rattle.std.proofs.Common.{lit<}
use Rattle.defmap_script.proofs.WordLemmas.{cut-split_once}
use Rattle.defmap_script.proofs.words.cut_at_colon.Goals as goal

pub returns : goal.returns
returns c = cut-split_once 58 c.args.word.now c.split_once.result c.split_once.ensures.cases (lit< tt)

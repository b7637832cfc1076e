use Rattle.std.proofs.Common.{lit<}
use Rattle.defmap_script.proofs.WordLemmas.{cut-split_once}
use Rattle.defmap_script.proofs.lines.cut_at_space.Goals as goal

pub returns : goal.returns
returns c = cut-split_once 32 c.args.text.now c.split_once.result c.split_once.ensures.cases (lit< tt)

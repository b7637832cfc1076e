use Rattle.std.proofs.Common.{lit<}
use Rattle.std.proofs.lemmas.Str.Pattern.{strip_prefix_char}
use Rattle.defmap_script.proofs.WordLemmas.{behind-stripped}
use Rattle.defmap_script.proofs.build_words.behind_b.Goals as goal

pub returns : goal.returns
returns c = behind-stripped 98 c.args.word.now c.strip_prefix.result (strip_prefix_char 98 c.args.word.now c.strip_prefix.result c.strip_prefix.ensures.cases (lit< tt))

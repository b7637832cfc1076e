use Rattle.std.proofs.Common.{◌∙◌, sym}
use Rattle.std.proofs.lemmas.Bool.{eqb-false}
use Rattle.defmap_script.proofs.WordLemmas.{number-read}
use Rattle.defmap_script.proofs.words.number.Goals as goal

pub returns : goal.returns
returns c =
    let plain = eqb-false _ 43 (sym c.has_plus.ensures ∙ c.if-has_plus.false) in
    c.ok.ensures.value ∙ number-read c.args.word.now c.parse.result c.parse.ensures.value.0 plain

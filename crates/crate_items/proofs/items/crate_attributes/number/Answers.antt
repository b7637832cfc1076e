use Rattle.std.proofs.Common.{◌∙◌, sym}
use Rattle.std.proofs.lemmas.Bool.{eqb-false}
use Rattle.crate_items.proofs.NumberLemmas.{number-read}
use Rattle.crate_items.proofs.items.crate_attributes.number.Goals as goal

pub returns : goal.returns
returns c =
    let plain = eqb-false _ 43 (sym c.has_plus.ensures ∙ c.if-has_plus.false) in
    c.ok.ensures.value ∙ number-read c.args.digits.now c.parse.result c.parse.ensures.value.0 plain

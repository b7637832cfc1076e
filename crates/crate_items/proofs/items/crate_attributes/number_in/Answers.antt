use Rattle.std.proofs.Common.{◌≡◌, ◌∙◌, rules}
use Rattle.crate_items.specs.CrateAttributes.{number}
use Rattle.crate_items.proofs.NumberLemmas.{no_text_number, text_number}
use Rattle.crate_items.proofs.items.crate_attributes.number_in.Goals as goal

pub returns-in-Err : goal.returns-in-Err
returns-in-Err c = no_text_number c.args.bytes.now c.in-Err.ensures.cases.0

pub returns-in-Ok : goal.returns-in-Ok
returns-in-Ok c =
    let same : c.number.result ≡ number c.args.bytes.now = search rules in
    same ∙ text_number c.args.bytes.now c.in-Ok.ensures.cases.1

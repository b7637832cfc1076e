use Rattle.crate_items.proofs.TextLemmas.{no_text_is_none, text_is_name}
use Rattle.std.proofs.Common.{◌≡◌, ◌∙◌, ap, rules, Some}
use Rattle.crate_items.specs.Modules.{normalized}
use Rattle.crate_items.proofs.items.lexeme_names.as_name.Goals as goal

pub returns-in-Err : goal.returns-in-Err
returns-in-Err c = no_text_is_none c.args.bytes.now c.in-Err.ensures.cases.0

pub returns-in_ok-name-in-Ok : goal.returns-in_ok-name-in-Ok
returns-in_ok-name-in-Ok c =
    let same : c.in_ok-name-in-Ok.name ≡ normalized c.args.bytes.now = search rules in
    ap Some same ∙ text_is_name c.args.bytes.now c.in-Ok.ensures.cases.1

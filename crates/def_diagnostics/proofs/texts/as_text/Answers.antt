use Rattle.std.proofs.Common.{◌≡◌, ◌∙◌, rules}
use Rattle.def_diagnostics.proofs.TextLemmas.{no_text_is_mark, text_is_text}
use Rattle.def_diagnostics.proofs.texts.as_text.Goals as goal

pub returns-in-Err : goal.returns-in-Err
returns-in-Err c = no_text_is_mark c.args.bytes.now c.in-Err.ensures.cases.0

pub returns-in-Ok : goal.returns-in-Ok
returns-in-Ok c =
    let same : c.in-Ok.text.now ≡ c.args.bytes.now = search rules in
    same ∙ text_is_text c.args.bytes.now c.in-Ok.ensures.cases.1

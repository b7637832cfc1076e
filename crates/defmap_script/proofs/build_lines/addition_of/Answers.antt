use Rattle.std.proofs.Common.{◌∷◌, ◌∙◌, ap, sym}
use Rattle.defmap_script.specs.BuildLines.{addition}
use Rattle.defmap_script.specs.Lines.{words_left}
use Rattle.defmap_script.proofs.build_lines.addition_of.Goals as goal

pub returns-in-crate : goal.returns-in-crate
returns-in-crate c = c.crate_line.ensures ∙ sym (ap (λ w. addition (w ∷ words_left c.args.words)) c.in-crate.is)

pub returns-in-module : goal.returns-in-module
returns-in-module c = c.module_line.ensures ∙ sym (ap (λ w. addition (w ∷ words_left c.args.words)) c.in-module.is)

pub returns-in-block : goal.returns-in-block
returns-in-block c = c.block_line.ensures ∙ sym (ap (λ w. addition (w ∷ words_left c.args.words)) c.in-block.is)

pub returns-in-use : goal.returns-in-use
returns-in-use c = c.use_line.ensures ∙ sym (ap (λ w. addition (w ∷ words_left c.args.words)) c.in-use.is)

pub returns-in-item : goal.returns-in-item
returns-in-item c = c.item_line.ensures ∙ sym (ap (λ w. addition (w ∷ words_left c.args.words)) c.in-item.is)

pub returns-in-variant : goal.returns-in-variant
returns-in-variant c = c.variant_line.ensures ∙ sym (ap (λ w. addition (w ∷ words_left c.args.words)) c.in-variant.is)

pub returns-in-macro : goal.returns-in-macro
returns-in-macro c = c.macro_line.ensures ∙ sym (ap (λ w. addition (w ∷ words_left c.args.words)) c.in-macro.is)

pub returns-in-prelude : goal.returns-in-prelude
returns-in-prelude c = c.prelude_line.ensures ∙ sym (ap (λ w. addition (w ∷ words_left c.args.words)) c.in-prelude.is)

pub returns-in-macrouse : goal.returns-in-macrouse
returns-in-macrouse c = c.macro_use_line.ensures ∙ sym (ap (λ w. addition (w ∷ words_left c.args.words)) c.in-macrouse.is)

pub returns-in-extern : goal.returns-in-extern
returns-in-extern c = c.extern_line.ensures ∙ sym (ap (λ w. addition (w ∷ words_left c.args.words)) c.in-extern.is)

pub returns-in-legacy : goal.returns-in-legacy
returns-in-legacy c = c.legacy_line.ensures ∙ sym (ap (λ w. addition (w ∷ words_left c.args.words)) c.in-legacy.is)

pub returns-in-raw : goal.returns-in-raw
returns-in-raw c = c.raw_line.ensures ∙ sym (ap (λ w. addition (w ∷ words_left c.args.words)) c.in-raw.is)

pub returns-in-rules : goal.returns-in-rules
returns-in-rules c = c.rules_line.ensures ∙ sym (ap (λ w. addition (w ∷ words_left c.args.words)) c.in-rules.is)

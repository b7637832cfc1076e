use Rattle.std.proofs.Common.{◌∷◌, ◌∙◌, ap, sym}
use Rattle.defmap_script.specs.Lines.{command, words_left}
use Rattle.defmap_script.proofs.lines.command_of.Goals as goal

pub returns-in-push : goal.returns-in-push
returns-in-push c = c.push_line.ensures ∙ sym (ap (λ w. command (w ∷ words_left c.args.words)) c.in-push.is)

pub returns-in-check : goal.returns-in-check
returns-in-check c = c.check_line.ensures ∙ sym (ap (λ w. command (w ∷ words_left c.args.words)) c.in-check.is)

pub returns-in-build : goal.returns-in-build
returns-in-build c = c.build_line.ensures ∙ sym (ap (λ w. command (w ∷ words_left c.args.words)) c.in-build.is)

pub returns-in-path : goal.returns-in-path
returns-in-path c = c.path_line.ensures ∙ sym (ap (λ w. command (w ∷ words_left c.args.words)) c.in-path.is)

pub returns-in-single : goal.returns-in-single
returns-in-single c = c.path_line-in-single.ensures ∙ sym (ap (λ w. command (w ∷ words_left c.args.words)) c.in-single.is)

pub returns-in-import : goal.returns-in-import
returns-in-import c = c.import_line.ensures ∙ sym (ap (λ w. command (w ∷ words_left c.args.words)) c.in-import.is)

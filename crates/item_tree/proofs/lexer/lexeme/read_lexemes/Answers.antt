use Rattle.std.proofs.Common.{◌≡◌, ◌∙◌, arith, length, sym, ap, subst}
use Rattle.std.specs.Prelude.{sum_by, All}
use Rattle.std.proofs.lemmas.Result.{IfOk-weaker}
use Rattle.item_tree.specs.Lexemes.{LiesIn}
use Rattle.item_tree.specs.declared.lexer.token.Token.{Token}
use Rattle.item_tree.proofs.InText.{all_lie}
use Rattle.item_tree.proofs.lexer.lexeme.read_lexemes.Goals as goal

pub returns-clause-in_text : goal.returns-clause-in_text
returns-clause-in_text c =
    let tokens = c.as_slice.result.now in
    let whole : sum_by (λ (t : Token). t.len) tokens ≡ length c.args.text.now = ap (sum_by (λ (t : Token). t.len)) c.as_slice.ensures.value ∙ c.in_ok-tokens.ensures.whole in
    IfOk-weaker c.classify_all.result _ _
    (λ found is. subst (All (LiesIn (length c.args.text.now))) (sym is) (all_lie c.args.edition (length c.args.text.now) 0 tokens c.args.text.now (omega (arith, whole)))) c.classify_all.ensures

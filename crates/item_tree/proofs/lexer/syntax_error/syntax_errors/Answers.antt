use Rattle.std.proofs.Common.{◌≡◌, List, rules, subst, nat_cmp, IsPermutation}
use Rattle.std.specs.List.Sorted.{IsStableByKey}
use Rattle.std.proofs.lemmas.List.Sorted.{answers_always}
use Rattle.item_tree.specs.SyntaxErrors.{errors_of, place}
use Rattle.item_tree.specs.declared.lexer.syntax_error.SyntaxError.{SyntaxError}
use Rattle.item_tree.proofs.lexer.syntax_error.syntax_errors.Goals as goal

pub returns : goal.returns
returns c =
    let sorted = c.sort_by_key.new.self.items in
    let all : c.in_ok-errors.errors.items ≡ errors_of c.args.lexemes.now c.args.partners.now c.args.tree.now.items.items = search rules in
    record {
      each_once = subst (λ (xs : List SyntaxError). IsPermutation xs sorted) all c.in_ok-sort_by_key.ensures.permutation;
      in_order = c.in_ok-sort_by_key.ensures.sorted place (answers_always _ _ _ (λ f a r g h. search rules));
      stable = subst (λ (xs : List SyntaxError). IsStableByKey place nat_cmp xs sorted) all (c.in_ok-sort_by_key.ensures.stable place (answers_always _ _ _ (λ f a r g h. search rules)));
    }

-- Whole items and matched lexemes have no errors.
use Rattle.std.proofs.Common.{◌≡◌, ◌+◌, ◌++◌, ℕ, List, [], ◌∷◌, refl, ap, ◌∙◌, cond}
use Rattle.std.specs.Prelude.{Option, Some, None}
use Rattle.std.specs.List.{AllByRecursion}
use Rattle.item_tree.specs.SyntaxErrors.{error_at, lacks, item_error, lexeme_error, listed, item_errors, lexeme_errors, errors_of, IsWhole, IsMatchedAt, AreMatched}
use Rattle.item_tree.specs.Trees.{partner_at}
use Rattle.item_tree.specs.declared.items.expected.Expected.{Expected}
use Rattle.item_tree.specs.declared.items.expected.Expected.TheVariants as expected
use Rattle.item_tree.specs.declared.items.Item.{Item}
use Rattle.item_tree.specs.declared.lexer.lexeme.Lexeme.{Lexeme}
use Rattle.item_tree.specs.declared.lexer.lexeme.LexemeKind.{LexemeKind}
use Rattle.item_tree.specs.declared.lexer.lexeme.LexemeKind.TheVariants.{Word, Open, Close, Mark, Lifetime, Str, Literal, Error}
use Rattle.item_tree.specs.declared.lexer.syntax_error.SyntaxError.{SyntaxError}

whole_item : (x : Item) → IsWhole x → item_error x ≡ None
whole_item x is = ap (λ b. cond b (Some (error_at x.first expected.Item)) (lacks x.behind x.missing)) is.0 ∙ ap (λ (m : Option Expected). lacks x.behind m) is.1

whole_items : (items : List Item) → AllByRecursion IsWhole items → item_errors items ≡ []
whole_items [] all = refl
whole_items (x ∷ xs) all = ap (λ (o : Option SyntaxError). listed o ++ item_errors xs) (whole_item x all.0) ∙ whole_items xs all.1

matched : (k : LexemeKind) (i partner : ℕ) → IsMatchedAt i partner k → lexeme_error k i partner ≡ None
matched (Open d) i partner is = ap (λ b. cond b (Some (error_at i (expected.Closing d))) None) is
matched (Close d) i partner is = ap (λ b. cond b (Some (error_at i (expected.Opening d))) None) is
matched (Word w) i partner is = refl
matched (Mark b) i partner is = refl
matched Lifetime i partner is = refl
matched Str i partner is = refl
matched Literal i partner is = refl
matched Error i partner is = absurd is

all_matched : (partners : List ℕ) (i : ℕ) (ls : List Lexeme) → AreMatched partners i ls → lexeme_errors partners i ls ≡ []
all_matched partners i [] all = refl
all_matched partners i (l ∷ ls) all =
    ap (λ (o : Option SyntaxError). listed o ++ lexeme_errors partners (i + 1) ls) (matched l.kind i (partner_at partners i) all.0) ∙ all_matched partners (i + 1) ls all.1

pub no_errors : (lexemes : List Lexeme) (partners : List ℕ) (items : List Item) → AllByRecursion IsWhole items → AreMatched partners 0 lexemes → errors_of lexemes partners items ≡ []
no_errors lexemes partners items whole all = ap (λ xs. xs ++ lexeme_errors partners 0 lexemes) (whole_items items whole) ∙ all_matched partners 0 lexemes all

-- What a text lacks, as its items and its delimiters tell.
use Rattle.std.specs.Prelude.{◌≡◌, ◌==◌, ◌+◌, ℕ, List, [], ◌∷◌, ◌++◌, Option, Some, None, Bool, true, false, if◌then◌else◌}
use Rattle.std.specs.List.{AllByRecursion}
use Rattle.item_tree.specs.Trees.{partner_at}
use Rattle.item_tree.specs.declared.items.expected.Expected.{Expected}
use Rattle.item_tree.specs.declared.items.expected.Expected.TheVariants as expected
use Rattle.item_tree.specs.declared.items.item_kind.ItemKind.{ItemKind}
use Rattle.item_tree.specs.declared.items.item_kind.ItemKind.TheVariants as item
use Rattle.item_tree.specs.declared.items.Item.{Item}
use Rattle.item_tree.specs.declared.lexer.lexeme.Lexeme.{Lexeme}
use Rattle.item_tree.specs.declared.lexer.lexeme.LexemeKind.{LexemeKind}
use Rattle.item_tree.specs.declared.lexer.lexeme.LexemeKind.TheVariants.{Open, Close, Error}
use Rattle.item_tree.specs.declared.lexer.syntax_error.SyntaxError.{SyntaxError}

abbrev pub error_at : ℕ → Expected → SyntaxError
error_at i e = record { at = i; expected = e }

abbrev pub place : SyntaxError → ℕ
place e = e.at

abbrev pub lacks : ℕ → Option Expected → Option SyntaxError
lacks i None = None
lacks i (Some e) = Some (error_at i e)

abbrev pub is_error : ItemKind → Bool
is_error item.Error = true
is_error _ = false

-- where what is no item begins there should be one, and what an item misses should stand where the item ends
abbrev pub item_error : Item → Option SyntaxError
item_error x = if is_error x.kind then Some (error_at x.first expected.Item) else lacks x.behind x.missing

-- a delimiter without a partner is its own
abbrev pub lexeme_error : LexemeKind → ℕ → ℕ → Option SyntaxError
lexeme_error (Open d) i partner = if partner == i then Some (error_at i (expected.Closing d)) else None
lexeme_error (Close d) i partner = if partner == i then Some (error_at i (expected.Opening d)) else None
lexeme_error Error i partner = Some (error_at i expected.Token)
lexeme_error _ i partner = None

abbrev pub listed : Option SyntaxError → List SyntaxError
listed None = []
listed (Some e) = e ∷ []

-- the errors of items, each once
abbrev pub item_errors : List Item → List SyntaxError
item_errors [] = []
item_errors (x ∷ xs) = listed (item_error x) ++ item_errors xs

-- the errors of lexemes, the first of which stands at a place
abbrev pub lexeme_errors : List ℕ → ℕ → List Lexeme → List SyntaxError
lexeme_errors partners i [] = []
lexeme_errors partners i (l ∷ ls) = listed (lexeme_error l.kind i (partner_at partners i)) ++ lexeme_errors partners (i + 1) ls

-- all errors: those of the items, and those of the lexemes
abbrev pub errors_of : List Lexeme → List ℕ → List Item → List SyntaxError
errors_of lexemes partners items = item_errors items ++ lexeme_errors partners 0 lexemes

-- an item that is one, and has its end
abbrev pub IsWhole : Item → Type 0
IsWhole x = (is_error x.kind ≡ false) × (x.missing ≡ None)

abbrev pub IsMatchedAt : ℕ → ℕ → LexemeKind → Type 0
IsMatchedAt i partner (Open d) = (partner == i) ≡ false
IsMatchedAt i partner (Close d) = (partner == i) ≡ false
IsMatchedAt i partner Error = ⊥
IsMatchedAt i partner _ = Unit {0}

-- each delimiter has a partner, and each lexeme is a token
abbrev pub AreMatched : List ℕ → ℕ → List Lexeme → Type 0
AreMatched partners i [] = Unit {0}
AreMatched partners i (l ∷ ls) = IsMatchedAt i (partner_at partners i) l.kind × AreMatched partners (i + 1) ls

-- a text whose items are whole and whose delimiters match has no errors
abbrev pub WholeTextsHaveNoErrors : Type 0
WholeTextsHaveNoErrors = (lexemes : List Lexeme) (partners : List ℕ) (items : List Item) → AllByRecursion IsWhole items → AreMatched partners 0 lexemes → errors_of lexemes partners items ≡ []

-- The tokens that are neither blanks nor comments, told apart.
use Rattle.std.specs.Prelude.{◌==◌, ◌+◌, ◌≤◌, ◌++◌, ℕ, List, [], ◌∷◌, Option, Some, None, drop, take, if◌then◌else◌}
use Rattle.dm_base.specs.declared.edition.Edition.{Edition}
use Rattle.item_tree.specs.Words.{word_of}
use Rattle.item_tree.specs.declared.lexer.lexeme.Delimiter.TheVariants.{Parenthesis, Bracket, Brace}
use Rattle.item_tree.specs.declared.lexer.lexeme.LexemeKind.{LexemeKind}
use Rattle.item_tree.specs.declared.lexer.lexeme.LexemeKind.TheVariants.{Word, Open, Close, Mark, Lifetime, Str, Literal, Error}
use Rattle.item_tree.specs.declared.lexer.lexeme.Lexeme.{Lexeme}
use Rattle.item_tree.specs.declared.lexer.token.Token.{Token}
use Rattle.item_tree.specs.declared.lexer.token.TokenKind.{TokenKind}
use Rattle.item_tree.specs.declared.lexer.token.TokenKind.TheVariants as kind

-- a byte of punctuation: one of the six brackets, or a mark
abbrev pub punctuation : ℕ → LexemeKind
punctuation b =
    if b == 40 then Open Parenthesis
    else if b == 41 then Close Parenthesis
    else if b == 91 then Open Bracket
    else if b == 93 then Close Bracket
    else if b == 123 then Open Brace
    else if b == 125 then Close Brace
    else Mark b

abbrev pub first_mark : List ℕ → LexemeKind
first_mark [] = Error
first_mark (b ∷ bs) = punctuation b

-- what a token with these bytes is; blanks and comments are nothing
abbrev pub classify : Edition → TokenKind → List ℕ → Option LexemeKind
classify edition kind.Blank piece = None
classify edition kind.LineComment piece = None
classify edition kind.BlockComment piece = None
classify edition kind.Shebang piece = None
classify edition kind.Identifier piece = Some (Word (word_of edition piece))
classify edition kind.Lifetime piece = Some Lifetime
classify edition kind.Str piece = Some Str
classify edition kind.RawStr piece = Some Str
classify edition kind.Char piece = Some Literal
classify edition kind.Number piece = Some Literal
classify edition kind.Punctuation piece = Some (first_mark piece)
classify edition kind.Error piece = Some Error

abbrev pub placed : ℕ → ℕ → Option LexemeKind → List Lexeme
placed start len None = []
placed start len (Some k) = record { kind = k; start = start; len = len } ∷ []

-- the lexeme, if any, of a token that begins the rest of a text from a place on
abbrev pub lexeme_of : Edition → ℕ → Token → List ℕ → List Lexeme
lexeme_of edition start t rest = placed start t.len (classify edition t.kind (take t.len rest))

-- the lexemes of the tokens of the rest of a text from a place on
abbrev pub lexemes_of : Edition → ℕ → List Token → List ℕ → List Lexeme
lexemes_of edition start [] rest = []
lexemes_of edition start (t ∷ ts) rest = lexeme_of edition start t rest ++ lexemes_of edition (start + t.len) ts (drop t.len rest)

-- a lexeme within a text of so many bytes
abbrev pub LiesIn : ℕ → Lexeme → Type 0
LiesIn size l = l.start + l.len ≤ size

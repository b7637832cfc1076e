-- Tokens, read from a text.
use Rattle.std.specs.Prelude.{◌==◌, ◌+◌, ◌-◌, ◌++◌, ◌&&◌, ◌||◌, ℕ, Bool, true, false, not, List, [], ◌∷◌, Option, Some, None, codes, drop, take, slice_get, nat_le, nat_lt, length, nat_eq, if◌then◌else◌}
use Rattle.std.specs.List.{starts_with}
use Rattle.std.specs.Str.{bytes_eq}
use Rattle.dm_base.specs.declared.edition.Edition.{Edition}
use Rattle.dm_base.specs.declared.edition.Edition.TheVariants.{Edition2015}
use Rattle.item_tree.specs.Words.{word_of}
use Rattle.item_tree.specs.declared.lexer.lexeme.Delimiter.TheVariants.{Parenthesis, Bracket, Brace}
use Rattle.item_tree.specs.declared.lexer.token.Token as lexed
use Rattle.item_tree.specs.declared.lexer.token.TokenKind as lexed_kind
use Rattle.item_tree.specs.declared.lexer.token.TokenKind.TheVariants as of
use Rattle.item_tree.specs.declared.lexer.word.Word.{Word}
use Rattle.item_tree.specs.declared.lexer.word.Word.TheVariants as word
use Rattle.macro_rules.specs.declared.token.Keyword.{Keyword}
use Rattle.macro_rules.specs.declared.token.Keyword.TheVariants as keyword
use Rattle.macro_rules.specs.declared.token.Token.{Token}
use Rattle.macro_rules.specs.declared.token.TokenKind.{TokenKind}
use Rattle.macro_rules.specs.declared.token.TokenKind.TheVariants as kind
use Rattle.macro_rules.specs.declared.tokens.Doc.{Doc}
use Rattle.macro_rules.specs.declared.tokens.Doc.TheVariants.{Inner, Outer}

-- the operators of three marks
unfoldable pub is_triple : List ℕ → Bool
is_triple marks = bytes_eq marks (codes "<<=") || bytes_eq marks (codes ">>=") || bytes_eq marks (codes "...") || bytes_eq marks (codes "..=")

-- those of two that end with `=`
unfoldable pub is_assigning : List ℕ → Bool
is_assigning marks =
    bytes_eq marks (codes "==") || bytes_eq marks (codes "!=") || bytes_eq marks (codes "<=") || bytes_eq marks (codes ">=")
    || bytes_eq marks (codes "+=") || bytes_eq marks (codes "-=") || bytes_eq marks (codes "*=") || bytes_eq marks (codes "/=")
    || bytes_eq marks (codes "%=") || bytes_eq marks (codes "^=") || bytes_eq marks (codes "&=") || bytes_eq marks (codes "|=")

-- those of two
unfoldable pub is_double : List ℕ → Bool
is_double marks =
    bytes_eq marks (codes "&&") || bytes_eq marks (codes "||") || bytes_eq marks (codes "<<") || bytes_eq marks (codes ">>")
    || bytes_eq marks (codes "->") || bytes_eq marks (codes "=>") || bytes_eq marks (codes "::") || bytes_eq marks (codes "..")
    || bytes_eq marks (codes "<-") || is_assigning marks

-- the longest operator that a mark begins
abbrev pub operator_len : List ℕ → ℕ
operator_len rest =
    if nat_le 3 (length rest) && is_triple (take 3 rest) then 3
    else if nat_le 2 (length rest) && is_double (take 2 rest) then 2
    else 1

abbrev pub byte_or : Option ℕ → ℕ
byte_or None = 0
byte_or (Some b) = b

abbrev pub byte_at : List ℕ → ℕ → ℕ
byte_at bytes i = byte_or (slice_get bytes i)

-- one of the six brackets, or another mark
abbrev pub mark_kind : ℕ → TokenKind
mark_kind b =
    if b == 40 then kind.Open Parenthesis
    else if b == 41 then kind.Close Parenthesis
    else if b == 91 then kind.Open Bracket
    else if b == 93 then kind.Close Bracket
    else if b == 123 then kind.Open Brace
    else if b == 125 then kind.Close Brace
    else kind.Mark b

abbrev pub operator_kind : List ℕ → ℕ → TokenKind
operator_kind rest len =
    if len == 3 then kind.Triple (byte_at rest 0) (byte_at rest 1) (byte_at rest 2)
    else if len == 2 then kind.Pair (byte_at rest 0) (byte_at rest 1)
    else mark_kind (byte_at rest 0)

-- those that are names in the edition 2015
abbrev pub is_newer : Edition → Bool
is_newer Edition2015 = false
is_newer _ = true

-- keywords that no text has
unfoldable pub is_reserved : List ℕ → Bool
is_reserved name =
    bytes_eq name (codes "abstract") || bytes_eq name (codes "become") || bytes_eq name (codes "override") || bytes_eq name (codes "priv")
    || bytes_eq name (codes "unsized") || bytes_eq name (codes "virtual")

-- the keywords that the grammar of items has no word for
unfoldable pub keyword_of : Edition → List ℕ → Option Keyword
keyword_of edition name =
    if bytes_eq name (codes "loop") then Some keyword.Loop
    else if bytes_eq name (codes "continue") then Some keyword.Continue
    else if bytes_eq name (codes "await") && is_newer edition then Some keyword.Await
    else if bytes_eq name (codes "yield") then Some keyword.Yield
    else if bytes_eq name (codes "try") && is_newer edition then Some keyword.Try
    else if bytes_eq name (codes "do") || bytes_eq name (codes "box") then Some keyword.Do
    else if bytes_eq name (codes "typeof") then Some keyword.Typeof
    else if is_reserved name then Some keyword.Reserved
    else None

abbrev pub keyword_or : Option Keyword → TokenKind
keyword_or None = kind.Word word.Other
keyword_or (Some k) = kind.Keyword k

abbrev pub kind_of_word : Word → Edition → List ℕ → TokenKind
kind_of_word word.Other edition name = keyword_or (keyword_of edition name)
kind_of_word w edition name = kind.Word w

abbrev pub word_kind : Edition → List ℕ → TokenKind
word_kind edition name = kind_of_word (word_of edition name) edition name

-- what a token is that is neither a comment, a blank nor a mark
abbrev pub plain_kind : Edition → lexed_kind.TokenKind → List ℕ → Option TokenKind
plain_kind edition of.Identifier piece = Some (word_kind edition piece)
plain_kind edition of.Lifetime piece = Some kind.Lifetime
plain_kind edition of.Char piece = Some kind.Literal
plain_kind edition of.Number piece = Some kind.Literal
plain_kind edition of.Str piece = Some kind.Literal
plain_kind edition of.RawStr piece = Some kind.Literal
plain_kind edition of.Error piece = Some kind.Error
plain_kind edition _ piece = None

abbrev pub begins : List ℕ → List ℕ → Bool
begins text piece = starts_with nat_eq piece text

-- `//!` and `/*!` document what they stand in; `///` and `/**` what follows, but neither `////`, `/***` nor `/**/`
abbrev pub doc_of : lexed_kind.TokenKind → List ℕ → Option Doc
doc_of of.LineComment piece =
    if begins (codes "//!") piece then Some Inner
    else if begins (codes "///") piece && not (begins (codes "////") piece) then Some Outer
    else None
doc_of of.BlockComment piece =
    if begins (codes "/*!") piece then Some Inner
    else if begins (codes "/**") piece && not (begins (codes "/***") piece) && nat_lt 4 (length piece) then Some Outer
    else None
doc_of _ piece = None

abbrev pub placed : TokenKind → ℕ → ℕ → Token
placed k start len = record { kind = k; span = record { start = start; len = len } }

-- `[doc = ""]`, of the words `#![doc=""]`
abbrev pub doc_group : ℕ → List Token
doc_group words =
    placed (kind.Open Bracket) (words + 2) 1 ∷ placed (kind.Word word.Other) (words + 3) 3 ∷ placed (kind.Mark 61) (words + 6) 1
    ∷ placed kind.Doc (words + 7) 2 ∷ placed (kind.Close Bracket) (words + 9) 1 ∷ []

-- the attribute that a doc comment stands for
abbrev pub doc_tokens : ℕ → Doc → List Token
doc_tokens words Outer = placed (kind.Mark 35) words 1 ∷ doc_group words
doc_tokens words Inner = placed (kind.Mark 35) words 1 ∷ placed (kind.Mark 33) (words + 1) 1 ∷ doc_group words

abbrev pub marks_behind : lexed_kind.TokenKind → List ℕ → ℕ → ℕ
marks_behind of.Punctuation rest skipped = if skipped == 0 then operator_len rest - 1 else skipped - 1
marks_behind _ rest skipped = 0

-- what is left of an operator that begins with `>`, without its first mark and without its first two
abbrev pub left_of : TokenKind → ℕ → List Token
left_of (kind.Pair first second) start = if first == 62 then placed (kind.Mark second) (start + 1) 1 ∷ [] else []
left_of (kind.Triple first second third) start =
    if first == 62 then placed (kind.Pair second third) (start + 1) 2 ∷ placed (kind.Mark third) (start + 2) 1 ∷ [] else []
left_of k start = []

-- the operator that a mark begins, unless the mark belongs to one before
abbrev pub operator_tokens : ℕ → List ℕ → ℕ → List Token
operator_tokens start rest skipped =
    if skipped == 0
    then placed (operator_kind rest (operator_len rest)) start (operator_len rest) ∷ left_of (operator_kind rest (operator_len rest)) start
    else []

abbrev pub doc_or : ℕ → Option Doc → List Token
doc_or words None = []
doc_or words (Some doc) = doc_tokens words doc

abbrev pub plain_or : ℕ → ℕ → ℕ → Option Doc → Option TokenKind → List Token
plain_or words start len doc None = doc_or words doc
plain_or words start len doc (Some k) = placed k start len ∷ []

-- a word, a lifetime or a literal is a token, a doc comment an attribute, and a blank or another comment nothing
abbrev pub plain_tokens : Edition → ℕ → ℕ → lexed_kind.TokenKind → List ℕ → List Token
plain_tokens edition words start k piece = plain_or words start (length piece) (doc_of k piece) (plain_kind edition k piece)

abbrev pub tokens_by : lexed_kind.TokenKind → Edition → ℕ → ℕ → ℕ → List ℕ → ℕ → List Token
tokens_by of.Punctuation edition words start len rest skipped = operator_tokens start rest skipped
tokens_by k edition words start len rest skipped = plain_tokens edition words start k (take len rest)

-- the tokens, if any, that a token at the start of the rest of a text is
abbrev pub tokens_at : Edition → ℕ → ℕ → lexed.Token → List ℕ → ℕ → List Token
tokens_at edition words start t rest skipped = tokens_by t.kind edition words start t.len rest skipped

-- the tokens of a text that was cut, from a place on, where so many marks belong to an operator before
abbrev pub tokens_of : Edition → ℕ → ℕ → ℕ → List lexed.Token → List ℕ → List Token
tokens_of edition words start skipped [] rest = []
tokens_of edition words start skipped (t ∷ ts) rest =
    tokens_at edition words start t rest skipped ++ tokens_of edition words (start + t.len) (marks_behind t.kind rest skipped) ts (drop t.len rest)

-- `#![doc=""]`
abbrev pub doc_words : List ℕ
doc_words = 35 ∷ 33 ∷ 91 ∷ 100 ∷ 111 ∷ 99 ∷ 61 ∷ 34 ∷ 34 ∷ 93 ∷ []

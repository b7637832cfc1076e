-- The tokens of a text.
use Rattle.std.specs.Prelude.{◌≡◌, ◌==◌, ◌<◌, ◌≤◌, ◌++◌, ◌||◌, ◌&&◌, ℕ, Bool, true, false, List, [], ◌∷◌, length, drop, take, nat_lt, nat_le, is_none}
use Rattle.dm_base.specs.declared.edition.Edition.{Edition}
use Rattle.item_tree.specs.Characters.{is_following, is_blank, is_word_char, are_all}
use Rattle.item_tree.specs.Shapes.{is_no_newline, is_longest_run, past_quote, past_comment, past_raw, is_exact}
use Rattle.item_tree.specs.Numbers.{is_number}
use Rattle.item_tree.specs.Openings.{opening, begins_order_mark}
use Rattle.item_tree.specs.declared.items.bodies.NumberPart.TheVariants.{Digits}
use Rattle.item_tree.specs.declared.items.openings.Body.{Body}
use Rattle.item_tree.specs.declared.items.openings.Body.TheVariants.{Empty, Following, Blanks, Line, Word, Number, Comment, Quoted, Raw}
use Rattle.item_tree.specs.declared.items.openings.Opening.{Opening}
use Rattle.item_tree.specs.declared.lexer.token.TokenKind.{TokenKind}
use Rattle.item_tree.specs.declared.lexer.token.TokenKind.TheVariants as kind
use Rattle.item_tree.specs.declared.lexer.token.Token.{Token}

-- the piece is all of such a body, and the rest follows it: what may go on is as long as it can be, and what has
-- an end ends with the piece
abbrev pub fills : Body → List ℕ → List ℕ → Bool
fills Empty piece rest = length piece == 0
fills Following piece rest = is_longest_run is_following piece rest
fills Blanks piece rest = are_all is_blank piece rest
fills Line piece rest = is_longest_run is_no_newline piece rest
fills Word piece rest = are_all is_word_char piece rest
fills Number piece rest = is_number Digits piece rest
fills Comment piece rest = is_exact (past_comment 0 0 piece)
fills (Quoted quote) piece rest = is_exact (past_quote quote false piece)
fills (Raw hashes) piece rest = is_exact (past_raw hashes 0 piece)

-- such a body has an end, and the text does not have it
abbrev pub never_ends : Body → List ℕ → Bool
never_ends Comment text = is_none (past_comment 0 0 text)
never_ends (Quoted quote) text = is_none (past_quote quote false text)
never_ends (Raw hashes) text = is_none (past_raw hashes 0 text)
never_ends Empty text = false
never_ends Following text = false
never_ends Blanks text = false
never_ends Line text = false
never_ends Word text = false
never_ends Number text = false

abbrev pub number_of : TokenKind → ℕ
number_of kind.Blank = 0
number_of kind.LineComment = 1
number_of kind.BlockComment = 2
number_of kind.Shebang = 3
number_of kind.Identifier = 4
number_of kind.Lifetime = 5
number_of kind.Char = 6
number_of kind.Str = 7
number_of kind.RawStr = 8
number_of kind.Number = 9
number_of kind.Punctuation = 10
number_of kind.Error = 11

abbrev pub same_kind : TokenKind → TokenKind → Bool
same_kind a b = number_of a == number_of b

-- the piece is a token that opens so: of that kind, or an error that goes to the end of the text since it never ends
abbrev pub is_opened : Opening → TokenKind → List ℕ → List ℕ → Bool
is_opened o k piece rest =
    nat_le o.len (length piece)
    && ((same_kind k o.kind && fills o.body (drop o.len piece) rest)
    || (same_kind k kind.Error && (length rest == 0) && never_ends o.body (drop o.len piece)))

-- the piece is a token of this kind, and the rest follows it
abbrev pub is_token : Edition → Bool → TokenKind → List ℕ → List ℕ → Bool
is_token edition at_start k piece rest = is_opened (opening edition at_start (piece ++ rest)) k piece rest

-- the first bytes of the text, as many as the token has, are this token
pub record IsFirst (edition : Edition) (at_start : Bool) (token : Token) (text : List ℕ) : Type 0 where
  pub some_byte : 0 < token.len
  pub in_range : token.len ≤ length text
  pub checked : is_token edition at_start token.kind (take token.len text) (drop token.len text) ≡ true

-- cut at these lengths the text falls into these tokens; behind a byte order mark at the start the file still starts
abbrev pub are_tokens : Edition → Bool → List Token → List ℕ → Bool
are_tokens edition at_start [] text = length text == 0
are_tokens edition at_start (t ∷ ts) text =
    nat_lt 0 t.len && nat_le t.len (length text) && is_token edition at_start t.kind (take t.len text) (drop t.len text)
    && are_tokens edition (at_start && begins_order_mark text) ts (drop t.len text)

-- no other tokens are those of the text
abbrev pub IsOnlyCut : Edition → List Token → List ℕ → Type 0
IsOnlyCut edition ts text = (us : List Token) → are_tokens edition true us text ≡ true → us ≡ ts

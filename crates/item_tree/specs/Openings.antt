-- How tokens begin.
use Rattle.std.specs.Prelude.{◌==◌, ◌+◌, ◌&&◌, ℕ, Bool, true, false, not, List, [], ◌∷◌, drop, nat_eq, codes, if◌then◌else◌}
use Rattle.std.specs.List.{prefix_len, starts_with}
use Rattle.std.specs.Char.{is_ascii_digit, is_ascii_punctuation}
use Rattle.dm_base.specs.declared.edition.Edition.{Edition}
use Rattle.dm_base.specs.declared.edition.Edition.TheVariants.{Edition2015, Edition2018, Edition2021, Edition2024}
use Rattle.item_tree.specs.Characters.{is_blank, is_word_start, is_word_char, begins_char, chars_len}
use Rattle.item_tree.specs.Shapes.{begins}
use Rattle.item_tree.specs.declared.lexer.token.TokenKind.{TokenKind}
use Rattle.item_tree.specs.declared.lexer.token.TokenKind.TheVariants as kind
use Rattle.item_tree.specs.declared.items.openings.Body.{Body}
use Rattle.item_tree.specs.declared.items.openings.Body.TheVariants.{Empty, Following, Blanks, Line, Word, Number, Comment, Quoted, Raw}
use Rattle.item_tree.specs.declared.items.openings.Opening.{Opening}

-- a token of the kind opens with n bytes, and the body follows
abbrev pub opens : TokenKind → ℕ → Body → Opening
opens k n b = record { kind = k; len = n; body = b }

-- the editions with strings of C and raw lifetimes
abbrev pub since_2021 : Edition → Bool
since_2021 Edition2015 = false
since_2021 Edition2018 = false
since_2021 Edition2021 = true
since_2021 Edition2024 = true

-- the editions with `async` as a keyword
abbrev pub since_2018 : Edition → Bool
since_2018 Edition2015 = false
since_2018 Edition2018 = true
since_2018 Edition2021 = true
since_2018 Edition2024 = true

-- the editions with `gen` as a keyword
abbrev pub since_2024 : Edition → Bool
since_2024 Edition2024 = true
since_2024 _ = false

-- punctuation of ASCII, but no backslash and no backtick
abbrev pub is_mark : ℕ → Bool
is_mark b = is_ascii_punctuation b && not (b == 92) && not (b == 96)

-- `#!`, and no `[` as the next thing behind it, as attributes have
abbrev pub opens_shebang : List ℕ → Bool
opens_shebang text =
    starts_with nat_eq text (codes "#!") && not (begins (λ b. b == 91) (drop (2 + chars_len is_blank (drop 2 text)) text))

-- how many bytes of a raw string stand before its hashes: `r`, `br`, or since 2021 `cr`
abbrev pub raw_prefix : Edition → List ℕ → ℕ
raw_prefix edition text =
    if begins (λ b. b == 114) text then 1
    else if starts_with nat_eq text (codes "br") then 2
    else if since_2021 edition && starts_with nat_eq text (codes "cr") then 2
    else 0

abbrev pub hashes_behind : ℕ → List ℕ → ℕ
hashes_behind prefix text = prefix_len (λ b. b == 35) (drop prefix text)

-- a prefix of raw strings, hashes, a quote
abbrev pub opens_raw : Edition → List ℕ → Bool
opens_raw edition text =
    not (raw_prefix edition text == 0)
    && begins (λ b. b == 34) (drop (raw_prefix edition text + hashes_behind (raw_prefix edition text) text) text)

-- a raw string ends at a quote with as many hashes as it began with
abbrev pub raw_opening : Edition → List ℕ → Opening
raw_opening edition text =
    opens kind.RawStr (raw_prefix edition text + hashes_behind (raw_prefix edition text) text + 1)
    (Raw (hashes_behind (raw_prefix edition text) text))

-- behind the quote there is a word that no quote follows
abbrev pub opens_lifetime : List ℕ → Bool
opens_lifetime text =
    begins_char is_word_char (drop 1 text) && not (begins (λ b. b == 39) (drop (1 + chars_len is_word_char (drop 1 text)) text))

-- since 2021, `'r#` and a name
abbrev pub opens_raw_lifetime : Edition → List ℕ → Bool
opens_raw_lifetime edition text = since_2021 edition && starts_with nat_eq text (codes "'r#") && begins_char is_word_start (drop 3 text)

-- what begins with a quote: a lifetime, or else a character
unfoldable pub quote_opening : Edition → List ℕ → Opening
quote_opening edition text =
    if opens_raw_lifetime edition text then opens kind.Lifetime 3 Word
    else if opens_lifetime text then opens kind.Lifetime 1 Word
    else opens kind.Char 1 (Quoted 39)

-- `r#` and a name
abbrev pub opens_raw_identifier : List ℕ → Bool
opens_raw_identifier text = starts_with nat_eq text (codes "r#") && begins_char is_word_start (drop 2 text)

-- names, and marks; any other character is no token
unfoldable pub word_opening : List ℕ → Opening
word_opening text =
    if opens_raw_identifier text then opens kind.Identifier 2 Word
    else if begins_char is_word_start text then opens kind.Identifier 1 Word
    else if begins is_mark text then opens kind.Punctuation 1 Empty
    else opens kind.Error 1 Following

-- strings and characters of bytes have a `b` before the quote, strings of C, since 2021, a `c`
unfoldable pub literal_opening : Edition → List ℕ → Opening
literal_opening edition text =
    if begins (λ b. b == 34) text then opens kind.Str 1 (Quoted 34)
    else if starts_with nat_eq text (codes "b\"") then opens kind.Str 2 (Quoted 34)
    else if since_2021 edition && starts_with nat_eq text (codes "c\"") then opens kind.Str 2 (Quoted 34)
    else if starts_with nat_eq text (codes "b'") then opens kind.Char 2 (Quoted 39)
    else if opens_raw edition text then raw_opening edition text
    else word_opening text

-- a byte order mark
abbrev pub begins_order_mark : List ℕ → Bool
begins_order_mark text = starts_with nat_eq text (239 ∷ 187 ∷ 191 ∷ [])

-- the token that a text begins with; a byte order mark and a shebang stand at the start of a file alone
unfoldable pub opening : Edition → Bool → List ℕ → Opening
opening edition at_start text =
    if at_start && begins_order_mark text then opens kind.Blank 3 Empty
    else if at_start && opens_shebang text then opens kind.Shebang 2 Line
    else if begins_char is_blank text then opens kind.Blank 1 Blanks
    else if starts_with nat_eq text (codes "//") then opens kind.LineComment 2 Line
    else if starts_with nat_eq text (codes "/*") then opens kind.BlockComment 2 Comment
    else if begins is_ascii_digit text then opens kind.Number 1 Number
    else if begins (λ b. b == 39) text then quote_opening edition text
    else literal_opening edition text

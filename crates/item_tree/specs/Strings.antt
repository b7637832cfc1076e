-- What a string stands for, with its escapes.
--
-- The Rust Reference, "Tokens": `\n`, `\r`, `\t`, `\\`, `\0`, `\'` and `\"` stand for one byte each, `\x`
-- and two digits of base 16 for a byte below 128, `\u{..}` for the character of that number, in whose
-- digits underscores may stand, and a line end behind a backslash, with all blanks and line ends behind
-- it, for nothing. In raw strings a backslash is none of these. "Input format": a carriage return and a
-- line feed are a line feed. A backslash that begins no escape is an error of the compiler, and stands
-- for itself here.
use Rattle.std.specs.Prelude.{◌==◌, ◌+◌, ◌*◌, ◌-◌, ◌||◌, ◌&&◌, ℕ, zero, suc, Bool, not, List, [], ◌∷◌, ◌++◌, Option, Some, None, drop, take, length, nat_eq, nat_le, nat_lt, slice_get, if◌then◌else◌}
use Rattle.std.specs.Char.{encode_utf8}
use Rattle.std.specs.List.{prefix_len, starts_with}
use Rattle.item_tree.specs.Spans.{before_quote, piece, string_text}
use Rattle.item_tree.specs.declared.lexer.span.Span.{Span}
use Rattle.item_tree.specs.declared.lexer.strings.StringPiece.{StringPiece}
use Rattle.item_tree.specs.declared.lexer.strings.Unescaped.{Unescaped}
use Rattle.item_tree.specs.declared.lexer.strings.Unescaped.TheVariants.{Nothing, Byte, Char}

abbrev pub byte_of : Option ℕ → ℕ
byte_of None = 0
byte_of (Some b) = b

-- the byte at a place; zero past the last
abbrev pub byte_at : List ℕ → ℕ → ℕ
byte_at bs i = byte_of (slice_get bs i)

-- the value of a digit of base 16, and 16 where it is none
abbrev pub hex_digit : ℕ → ℕ
hex_digit b =
    if nat_le 48 b && nat_le b 57 then b - 48
    else if nat_le 97 b && nat_le b 102 then b - 87
    else if nat_le 65 b && nat_le b 70 then b - 55
    else 16

-- a digit of the number of a character, or an underscore
abbrev pub may_be_digit : ℕ → Bool
may_be_digit b = (b == 95) || nat_lt (hex_digit b) 16

-- a number with one more digit; a number that is that of no character stays
abbrev pub with_digit : ℕ → ℕ → ℕ
with_digit n b = if (b == 95) || nat_lt 1114111 n then n else n * 16 + hex_digit b

abbrev pub number_behind : ℕ → List ℕ → ℕ
number_behind n [] = n
number_behind n (b ∷ bs) = number_behind (with_digit n b) bs

-- the character of a number: none is among the surrogates, or above the last
abbrev pub is_character : ℕ → Bool
is_character n = nat_lt n 55296 || (nat_le 57344 n && nat_le n 1114111)

abbrev pub character_of : ℕ → Option ℕ
character_of n = if is_character n then Some n else None

-- the bytes that are passed over behind a line end
abbrev pub is_skipped : ℕ → Bool
is_skipped b = (b == 32) || (b == 9) || (b == 10) || (b == 13)

abbrev pub made : ℕ → Unescaped → StringPiece
made n u = record { len = n; stands_for = u }

abbrev pub itself : StringPiece
itself = made 1 (Byte 92)

-- the escapes of one byte
abbrev pub simple_escape : ℕ → StringPiece
simple_escape b =
    if b == 110 then made 2 (Byte 10)
    else if b == 114 then made 2 (Byte 13)
    else if b == 116 then made 2 (Byte 9)
    else if b == 48 then made 2 (Byte 0)
    else if (b == 92) || (b == 39) || (b == 34) then made 2 (Byte b)
    else itself

abbrev pub hex_escape : ℕ → ℕ → StringPiece
hex_escape high low = if nat_lt high 8 && nat_lt low 16 then made 4 (Byte (high * 16 + low)) else itself

abbrev pub character_piece : ℕ → Option ℕ → StringPiece
character_piece n None = itself
character_piece n (Some c) = made (n + 4) (Char c)

abbrev pub digits_len : List ℕ → ℕ
digits_len digits = prefix_len may_be_digit digits

-- `\u{`, so many digits, and `}`
abbrev pub character_by : ℕ → List ℕ → StringPiece
character_by n bs =
    if (byte_at bs 2 == 123) && (byte_at bs (n + 3) == 125) then character_piece n (character_of (number_behind 0 (take n (drop 3 bs)))) else itself

abbrev pub character_escape : List ℕ → StringPiece
character_escape bs = character_by (digits_len (drop 3 bs)) bs

abbrev pub skipped_len : List ℕ → ℕ
skipped_len bs = prefix_len is_skipped bs

-- a backslash begins the bytes
abbrev pub escape : List ℕ → StringPiece
escape bs =
    if byte_at bs 1 == 120 then hex_escape (hex_digit (byte_at bs 2)) (hex_digit (byte_at bs 3))
    else if byte_at bs 1 == 117 then character_escape bs
    else if (byte_at bs 1 == 10) || ((byte_at bs 1 == 13) && (byte_at bs 2 == 10)) then made (1 + skipped_len (drop 1 bs)) Nothing
    else simple_escape (byte_at bs 1)

-- the byte or escape that begins what a string has
abbrev pub first_piece : Bool → List ℕ → StringPiece
first_piece raw bs =
    if (byte_at bs 0 == 13) && (byte_at bs 1 == 10) then made 2 (Byte 10)
    else if (byte_at bs 0 == 92) && not raw then escape bs
    else made 1 (Byte (byte_at bs 0))

abbrev pub bytes_of : Unescaped → List ℕ
bytes_of Nothing = []
bytes_of (Byte b) = b ∷ []
bytes_of (Char c) = encode_utf8 c

-- what the pieces stand for, but for the first so many bytes, which are in a piece before
abbrev pub value_from : Bool → ℕ → List ℕ → List ℕ
value_from raw skipped [] = []
value_from raw zero (b ∷ bs) = bytes_of (first_piece raw (b ∷ bs)).stands_for ++ value_from raw ((first_piece raw (b ∷ bs)).len - 1) bs
value_from raw (suc n) (b ∷ bs) = value_from raw n bs

-- a raw string has an `r` before its first quote
abbrev pub is_raw : List ℕ → Span → Bool
is_raw text s = not (before_quote (piece text s) == 0)

-- what the string stands for that is a piece of a text
abbrev pub string_value : List ℕ → Span → List ℕ
string_value text s = value_from (is_raw text s) 0 (string_text text s)

abbrev pub prefix_len_of : List ℕ → List ℕ → Option ℕ
prefix_len_of value prefix = if starts_with nat_eq value prefix then Some (length prefix) else None

abbrev pub matched_len : List ℕ → Unescaped → Option ℕ
matched_len value u = prefix_len_of value (bytes_of u)

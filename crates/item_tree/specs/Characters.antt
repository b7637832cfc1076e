-- Characters in UTF-8, and those of names and blanks.
use Rattle.std.specs.Prelude.{◌==◌, ◌+◌, ◌*◌, ◌%◌, ◌||◌, ◌&&◌, ℕ, Bool, true, false, not, List, [], ◌∷◌, ◌++◌, Option, Some, None, nat_le, nat_lt, slice_get, if◌then◌else◌}
use Rattle.std.specs.Char.{is_ascii_digit, is_ascii_alphabetic}
use Rattle.unicode_ident.specs.Ident.{is_xid_start, is_xid_continue}

-- a byte that is not the first of its character
abbrev pub is_following : ℕ → Bool
is_following b = nat_le 128 b && nat_lt b 192

-- what such a byte adds
abbrev pub low_bits : Option ℕ → ℕ
low_bits None = 0
low_bits (Some b) = b % 64

-- the character that begins with a byte, which has the others behind it
abbrev pub char_at : ℕ → List ℕ → ℕ
char_at x behind =
    if nat_lt x 128 then x
    else if nat_lt x 224 then x % 32 * 64 + low_bits (slice_get behind 0)
    else if nat_lt x 240 then x % 16 * 4096 + low_bits (slice_get behind 0) * 64 + low_bits (slice_get behind 1)
    else x % 8 * 262144 + low_bits (slice_get behind 0) * 4096 + low_bits (slice_get behind 1) * 64 + low_bits (slice_get behind 2)

-- a number that is a character: none between those of two halves of UTF-16, and none past the last
abbrev pub is_scalar : ℕ → Bool
is_scalar c = nat_lt c 55296 || (nat_le 57344 c && nat_le c 1114111)

-- a name begins with a letter, `_`, or another character of XID_Start
abbrev pub is_word_start : ℕ → Bool
is_word_start c = if nat_lt c 128 then is_ascii_alphabetic c || (c == 95) else is_scalar c && is_xid_start c

-- and goes on with letters, digits, `_` and other characters of XID_Continue
abbrev pub is_word_char : ℕ → Bool
is_word_char c = if nat_lt c 128 then is_ascii_alphabetic c || is_ascii_digit c || (c == 95) else is_scalar c && is_xid_continue c

-- the characters of Pattern_White_Space: of ASCII the tabs, newlines, form feed and space, then the next line,
-- marks of direction, and separators of lines and paragraphs
abbrev pub is_blank : ℕ → Bool
is_blank c = (nat_le 9 c && nat_le c 13) || (c == 32) || (c == 133) || (c == 8206) || (c == 8207) || (c == 8232) || (c == 8233)

-- the first character is there, and passes p
abbrev pub begins_char : (ℕ → Bool) → List ℕ → Bool
begins_char p [] = false
begins_char p (x ∷ xs) = not (is_following x) && p (char_at x xs)

-- a byte goes on characters that pass p: it is the first of one that passes, or not the first
abbrev pub goes_on : (ℕ → Bool) → ℕ → List ℕ → Bool
goes_on p x behind = is_following x || p (char_at x behind)

-- each byte of the piece goes on such characters, and the one behind it does not
abbrev pub are_all : (ℕ → Bool) → List ℕ → List ℕ → Bool
are_all p [] [] = true
are_all p [] (y ∷ ys) = not (goes_on p y ys)
are_all p (x ∷ xs) rest = goes_on p x (xs ++ rest) && are_all p xs rest

-- how many bytes of such characters a text begins with
abbrev pub chars_len : (ℕ → Bool) → List ℕ → ℕ
chars_len p [] = 0
chars_len p (x ∷ xs) = if goes_on p x xs then 1 + chars_len p xs else 0

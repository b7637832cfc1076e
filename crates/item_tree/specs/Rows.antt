-- Texts that are easy to cut wrongly, and how they are cut.
use Rattle.std.specs.Prelude.{ℕ, Bool, true, List, [], ◌∷◌, codes}
use Rattle.dm_base.specs.declared.edition.Edition.TheVariants.{Edition2018, Edition2021}
use Rattle.item_tree.specs.Tokens.{are_tokens}
use Rattle.item_tree.specs.declared.lexer.token.TokenKind.{TokenKind}
use Rattle.item_tree.specs.declared.lexer.token.TokenKind.TheVariants.{Blank, LineComment, BlockComment, Shebang, Identifier, Lifetime, Char, Str, RawStr, Number, Punctuation, Error}
use Rattle.item_tree.specs.declared.lexer.token.Token.{Token}

abbrev pub of : TokenKind → ℕ → Token
of k n = record { kind = k; len = n }

-- the tokens of a file in the edition 2021
abbrev pub cut_2021 : List Token → List ℕ → Bool
cut_2021 tokens text = are_tokens Edition2021 true tokens text

-- characters, a lifetime and a raw one
abbrev pub quotes : Bool
quotes =
    cut_2021 (of Char 3 ∷ of Blank 1 ∷ of Lifetime 2 ∷ of Blank 1 ∷ of Char 4 ∷ of Blank 1 ∷ of Char 5 ∷ of Blank 1 ∷ of Lifetime 4 ∷ [])
    (codes "'a' 'a '\\'' b'\\'' 'r#a")

-- raw strings with a quote and a hash in them, of text, bytes and C
abbrev pub raw_strings : Bool
raw_strings =
    cut_2021 (of RawStr 10 ∷ of Punctuation 1 ∷ of RawStr 3 ∷ of RawStr 9 ∷ of RawStr 6 ∷ [])
    (codes "r##\"\"#a\"##;r\"\"br#\"a\"b\"#cr#\"\"#")

-- a raw name, and an `r` before a hash
abbrev pub raw_names : Bool
raw_names =
    cut_2021 (of Identifier 6 ∷ of Blank 1 ∷ of Identifier 1 ∷ of Punctuation 1 ∷ of Punctuation 1 ∷ of Identifier 1 ∷ []) (codes "r#type r##a")

-- strings of C are of the edition 2021; before it they are a name and a string
abbrev pub c_string_2021 : Bool
c_string_2021 = cut_2021 (of Str 4 ∷ of Str 3 ∷ []) (codes "c\"x\"b\"\"")

abbrev pub c_string_2018 : Bool
c_string_2018 = are_tokens Edition2018 true (of Identifier 1 ∷ of Str 3 ∷ of Str 3 ∷ []) (codes "c\"x\"b\"\"")

-- so are raw lifetimes: before it they are a lifetime, a hash and a name
abbrev pub raw_lifetime_2018 : Bool
raw_lifetime_2018 = are_tokens Edition2018 true (of Lifetime 2 ∷ of Punctuation 1 ∷ of Identifier 1 ∷ []) (codes "'r#a")

abbrev pub comments : Bool
comments = cut_2021 (of BlockComment 11 ∷ of BlockComment 6 ∷ of Identifier 1 ∷ of LineComment 4 ∷ of Blank 1 ∷ []) (codes "/* /* */ *//*/ */a//*/\n")

abbrev pub escaped_quote : Bool
escaped_quote = cut_2021 (of Str 6 ∷ of Str 4 ∷ of Number 1 ∷ []) (codes "\"a\\\"b\"\"\\\\\"1")

-- a range, a method of a number, a float, a sum behind a hexadecimal number, exponents, a binary number with a suffix
abbrev pub numbers : Bool
numbers =
    cut_2021 (of Number 1 ∷ of Punctuation 1 ∷ of Punctuation 1 ∷ of Number 3 ∷ of Blank 1 ∷ of Number 1 ∷ of Punctuation 1 ∷ of Identifier 1 ∷ of Blank 1 ∷ of Number 2 ∷ of Blank 1 ∷ of Number 3 ∷ [])
    (codes "1..2u8 1.e 1. 1.5")

abbrev pub exponents : Bool
exponents =
    cut_2021 (of Number 4 ∷ of Punctuation 1 ∷ of Number 1 ∷ of Blank 1 ∷ of Number 4 ∷ of Blank 1 ∷ of Number 9 ∷ of Blank 1 ∷ of Number 7 ∷ [])
    (codes "0x1e+1 1e-3 1.5E+3f64 0b1_0u8")

-- a shebang is the first line, where it is no attribute
abbrev pub shebang : Bool
shebang = cut_2021 (of Shebang 9 ∷ of Blank 1 ∷ of Punctuation 1 ∷ of Punctuation 1 ∷ of Identifier 1 ∷ []) (codes "#!/bin/sh\n#!a")

abbrev pub shebang_behind_mark : Bool
shebang_behind_mark = cut_2021 (of Blank 3 ∷ of Shebang 3 ∷ []) (239 ∷ 187 ∷ 191 ∷ codes "#!a")

abbrev pub attribute : Bool
attribute = cut_2021 (of Punctuation 1 ∷ of Punctuation 1 ∷ of Punctuation 1 ∷ of Identifier 6 ∷ of Punctuation 1 ∷ []) (codes "#![no_std]")

-- what has no end, and what is no token
abbrev pub open_comment : Bool
open_comment = cut_2021 (of Identifier 1 ∷ of Error 7 ∷ []) (codes "a/* /**/")

abbrev pub open_raw_string : Bool
open_raw_string = cut_2021 (of Error 1 ∷ of Error 6 ∷ []) (codes "`br#\"a\"")

-- cuts that are refused: a name in two, a raw string as a name and a string, a comment at its first `*/`, an error
-- that has an end
abbrev pub word_in_two : Bool
word_in_two = cut_2021 (of Identifier 1 ∷ of Identifier 1 ∷ []) (codes "ab")

abbrev pub raw_string_as_string : Bool
raw_string_as_string = cut_2021 (of Identifier 1 ∷ of Str 2 ∷ []) (codes "r\"\"")

abbrev pub comment_too_short : Bool
comment_too_short = cut_2021 (of BlockComment 8 ∷ of Blank 1 ∷ of Punctuation 1 ∷ of Punctuation 1 ∷ []) (codes "/* /* */ */")

abbrev pub closed_error : Bool
closed_error = cut_2021 (of Error 3 ∷ []) (codes "\"a\"")

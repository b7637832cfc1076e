-- How far a number goes on behind its first digit.
use Rattle.std.specs.Prelude.{◌==◌, ◌+◌, ◌||◌, ◌&&◌, ◌++◌, ℕ, Bool, false, not, List, [], ◌∷◌, if◌then◌else◌}
use Rattle.std.specs.Char.{is_ascii_digit}
use Rattle.item_tree.specs.Characters.{is_word_start, is_word_char, begins_char}
use Rattle.item_tree.specs.Characters as chars
use Rattle.item_tree.specs.Shapes.{begins}
use Rattle.item_tree.specs.declared.items.bodies.NumberPart.{NumberPart}
use Rattle.item_tree.specs.declared.items.bodies.NumberPart.TheVariants.{Digits, Fraction, Exponent, Suffix}

-- a dot belongs to a number of digits alone, unless a dot or a name follows it
abbrev pub takes_dot : NumberPart → List ℕ → Bool
takes_dot Digits behind = not (begins (λ b. b == 46) behind) && not (begins_char is_word_start behind)
takes_dot Fraction behind = false
takes_dot Exponent behind = false
takes_dot Suffix behind = false

-- a sign belongs to a number right behind the `e` of an exponent
abbrev pub takes_sign : NumberPart → ℕ → Bool
takes_sign Exponent x = (x == 43) || (x == 45)
takes_sign Digits x = false
takes_sign Fraction x = false
takes_sign Suffix x = false

-- the byte belongs to the number, where it has these bytes behind it
abbrev pub takes : NumberPart → ℕ → List ℕ → Bool
takes part x behind = chars.goes_on is_word_char x behind || ((x == 46) && takes_dot part behind) || takes_sign part x

-- an `e` behind digits and `_` alone begins an exponent; any other letter ends what may have one
abbrev pub after_digit : NumberPart → ℕ → NumberPart
after_digit part x = if is_ascii_digit x || (x == 95) then part else if (x == 101) || (x == 69) then Exponent else Suffix

-- how far the number is read with this byte
abbrev pub after : NumberPart → ℕ → NumberPart
after Digits x = if x == 46 then Fraction else after_digit Digits x
after Fraction x = after_digit Fraction x
after Exponent x = Suffix
after Suffix x = Suffix

-- a number that is read so far goes on in a text
abbrev pub goes_on : NumberPart → List ℕ → Bool
goes_on part [] = false
goes_on part (x ∷ xs) = takes part x xs

-- each byte of the piece belongs to the number, and the one behind it does not
abbrev pub is_number : NumberPart → List ℕ → List ℕ → Bool
is_number part [] rest = not (goes_on part rest)
is_number part (x ∷ xs) rest = takes part x (xs ++ rest) && is_number (after part x) xs rest

-- how many bytes of a text belong to it
abbrev pub number_len : NumberPart → List ℕ → ℕ
number_len part [] = 0
number_len part (x ∷ xs) = if takes part x xs then 1 + number_len (after part x) xs else 0

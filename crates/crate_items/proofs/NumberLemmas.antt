-- Decimal digits, as `parse` reads them.
use Rattle.std.proofs.Common.{◌≡◌, ◌≢◌, ◌<◌, ◌^◌, ℕ, Bool, true, false, List, [], ◌∷◌, None, Result, Ok, Err, length, get_or, arith, refl, sym, ◌∙◌, ap, ◌&&◌, cond, inl, inr, subst, true≢false}
use Rattle.std.specs.Result.{OkIff, result_ok}
use Rattle.std.specs.Char.{is_ascii_digit}
use Rattle.std.specs.List.{list_all}
use Rattle.std.specs.Str.{IsUtf8, all_ascii_digits, is_utf8}
use Rattle.std.specs.Str.Parse.{IsNumeral, ParsesUnsigned, digits_value}
use Rattle.std.proofs.lemmas.Bool.{cases_Bool}
use Rattle.std.proofs.lemmas.Bool.Decides.{nat_tests}
use Rattle.std.proofs.lemmas.Str.{IsUtf8-from_is_utf8, is_utf8-from_IsUtf8}
use Rattle.std.proofs.lemmas.Str.Parse.{IsNumeralModel, numerals_by_value, tells_all_ascii_digits, parse_digits, without_leading_plus_none}
use Rattle.crate_items.specs.CrateAttributes.{number, number_in}

own : IsNumeralModel (λ ds. all_ascii_digits ds ≡ true) (digits_value 10)
own = numerals_by_value _ tells_all_ascii_digits

all_ascii_digits-all : (w : List ℕ) → all_ascii_digits w ≡ list_all is_ascii_digit w
all_ascii_digits-all [] = refl
all_ascii_digits-all (c ∷ cs) = ap (λ b. is_ascii_digit c && b) (all_ascii_digits-all cs)

number-from : {E : Type 0} → (w : List ℕ) (r : Result ℕ E) → list_all is_ascii_digit w ≡ true → OkIff r ((0 < length w) × (digits_value 10 w < 2 ^ 32)) (digits_value 10 w) → result_ok r ≡ number w
number-from w (Ok v) d h = rw d (grind (arith, nat_tests))
number-from w (Err e) d h = rw d (grind (arith, nat_tests))

number-parsed : {E : Type 0} → (w : List ℕ) (r : Result ℕ E) → ParsesUnsigned 32 10 w r → list_all is_ascii_digit w ≡ true → result_ok r ≡ number w
number-parsed w r h d = number-from w r d (parse_digits own 32 w r h (all_ascii_digits-all w ∙ d))

no-number : (w : List ℕ) → list_all is_ascii_digit w ≡ false → number w ≡ None
no-number w d = rw d refl

-- what `parse` takes without a plus is digits alone
digits-parsed : {E : Type 0} → (w : List ℕ) (r : Result ℕ E) → ParsesUnsigned 32 10 w r → get_or w 0 0 ≢ 43 → list_all is_ascii_digit w ≡ false → result_ok r ≡ number w
digits-parsed w (Ok v) h plain other =
    let read : IsNumeral 10 w = subst (IsNumeral 10) (without_leading_plus_none w plain) h.0.0 in
    absurd (true≢false (sym (sym (all_ascii_digits-all w) ∙ own.from w read.1) ∙ other))
digits-parsed w (Err e) h plain other = sym (no-number w other)

pub number-read : {E : Type 0} → (w : List ℕ) (r : Result ℕ E) → ParsesUnsigned 32 10 w r → get_or w 0 0 ≢ 43 → result_ok r ≡ number w
number-read w r h plain = elim (cases_Bool (list_all is_ascii_digit w)) [
  | inl digits ↦ number-parsed w r h digits
  | inr other ↦ digits-parsed w r h plain other
]

pub text_number : (bytes : List ℕ) → IsUtf8 bytes → number bytes ≡ number_in bytes
text_number bytes is = ap (λ b. cond b (number bytes) None) (sym (is_utf8-from_IsUtf8 bytes is))

pub no_text_number : (bytes : List ℕ) → ¬ (IsUtf8 bytes) → None ≡ number_in bytes
no_text_number bytes not = by (is_utf8 bytes) refl
  where
    by : (b : Bool) → is_utf8 bytes ≡ b → None ≡ cond b (number bytes) None
    by true e = absurd (not (IsUtf8-from_is_utf8 bytes e))
    by false e = refl

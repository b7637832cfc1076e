-- The parsers of words give what the specification says.
use Rattle.std.proofs.Common.{◌≡◌, ◌≢◌, ℕ, ◌+◌, ◌<◌, ◌^◌, Bool, true, false, List, [], ◌∷◌, ◌++◌, Option, Some, None, Result, Ok, Err, length, get_or, arith, refl, sym, ◌∙◌, suc, ap, eqb, ◌&&◌, cond, take, drop, inl, inr, subst, true≢false}
use Rattle.std.specs.Option.{option_map, MatchOption}
use Rattle.std.specs.Result.{OkIff, result_ok}
use Rattle.std.specs.Char.{is_ascii_digit}
use Rattle.std.specs.List.{list_all, position, position_from}
use Rattle.std.specs.Str.{all_ascii_digits}
use Rattle.std.specs.Str.Parse.{IsNumeral, ParsesUnsigned, digits_value}
use Rattle.std.proofs.lemmas.Bool.{cases_Bool, eq-eqb, ne_eqb, eqb-true, eqb-false}
use Rattle.std.proofs.lemmas.Iterator.Adapters.{position_from-zero}
use Rattle.std.proofs.lemmas.List.{take-append-drop, drop_more, get_or-take, length-take}
use Rattle.std.proofs.lemmas.List.Quantifiers.{position-Some}
use Rattle.std.proofs.lemmas.Bool.Decides.{nat_tests}
use Rattle.std.proofs.lemmas.Str.Parse.{IsNumeralModel, numerals_by_value, tells_all_ascii_digits, parse_digits, without_leading_plus_none}
use Rattle.std.proofs.lemmas.Str.Pattern.{IsSplitOnceResult, split_parts}
use denote.Ref.{Bor}
use Rattle.defmap_script.specs.Words.{number, cut}
use Rattle.defmap_script.specs.BuildWords.{behind}

own : IsNumeralModel (λ ds. all_ascii_digits ds ≡ true) (digits_value 10)
own = numerals_by_value _ tells_all_ascii_digits

all_ascii_digits-all : (w : List ℕ) → all_ascii_digits w ≡ list_all is_ascii_digit w
all_ascii_digits-all [] = refl
all_ascii_digits-all (c ∷ cs) = ap (λ b. is_ascii_digit c && b) (all_ascii_digits-all cs)

number-from : {E : Type 0} → (w : List ℕ) (r : Result ℕ E) → list_all is_ascii_digit w ≡ true → OkIff r ((0 < length w) × (digits_value 10 w < 2 ^ 32)) (digits_value 10 w) → result_ok r ≡ number w
number-from w (Ok v) d h = rw d (grind (arith, nat_tests))
number-from w (Err e) d h = rw d (grind (arith, nat_tests))

-- digits alone, read by `parse`
number-parsed : {E : Type 0} → (w : List ℕ) (r : Result ℕ E) → ParsesUnsigned 32 10 w r → list_all is_ascii_digit w ≡ true → result_ok r ≡ number w
number-parsed w r h d = number-from w r d (parse_digits own 32 w r h (all_ascii_digits-all w ∙ d))

no-number : (w : List ℕ) → list_all is_ascii_digit w ≡ false → number w ≡ None
no-number w d = rw d refl

-- what `parse` takes without a plus is digits alone
digits-parsed : {E : Type 0} → (w : List ℕ) (r : Result ℕ E) → ParsesUnsigned 32 10 w r → get_or w 0 0 ≢ 43 → list_all is_ascii_digit w ≡ false → result_ok r ≡ number w
digits-parsed w (Ok v) h plain other =
    let read : IsNumeral 10 w = subst (IsNumeral 10) (without_leading_plus_none w plain) h.0.0 in
    absurd (true≢false (sym (sym (all_ascii_digits-all w) ∙ own.from w read.1) ∙ other))
digits-parsed w (Err e) h plain other = sym (no-number w other)

-- a text without a plus, read by `parse`
pub number-read : {E : Type 0} → (w : List ℕ) (r : Result ℕ E) → ParsesUnsigned 32 10 w r → get_or w 0 0 ≢ 43 → result_ok r ≡ number w
number-read w r h plain = elim (cases_Bool (list_all is_ascii_digit w)) [
  | inl digits ↦ number-parsed w r h digits
  | inr other ↦ digits-parsed w r h plain other
]

-- a plus begins no number
pub plus-no-number : (w : List ℕ) → get_or w 0 0 ≡ 43 → number w ≡ None
plus-no-number [] e = refl
plus-no-number (c ∷ cs) e = rw e refl

later : (c x : ℕ) (xs : List ℕ) → ((i : ℕ) → i < length (x ∷ xs) → get_or (x ∷ xs) i 0 ≢ c) → (i : ℕ) → i < length xs → get_or xs i 0 ≢ c
later c x xs h i l = h (suc i) (omega arith)

-- where the byte is not, there is no cut
cut-none : (c : ℕ) (xs : List ℕ) → ((i : ℕ) → i < length xs → get_or xs i 0 ≢ c) → cut c xs ≡ None
cut-none c [] h = refl
cut-none c (x ∷ xs) h =
    let here : eqb x c ≡ false = ne_eqb x c (h 0 (omega arith))
    in rw (here, cut-none c xs (later c x xs h))

-- the cut is at the first of the byte
cut-first : (c : ℕ) (xs ys : List ℕ) → ((i : ℕ) → i < length xs → get_or xs i 0 ≢ c) → cut c (xs ++ c ∷ ys) ≡ Some (xs, ys)
cut-first c [] ys h =
    let here : eqb c c ≡ true = eq-eqb c c refl
    in rw here
cut-first c (x ∷ xs) ys h =
    let here : eqb x c ≡ false = ne_eqb x c (h 0 (omega arith))
    in rw (here, cut-first c xs ys (later c x xs h))

abbrev pub parts : Option (Bor (List ℕ) × Bor (List ℕ)) → Option (List ℕ × List ℕ)
parts r = option_map (λ p. (p.0.now, p.1.now)) r

cut-by_cases : (c : ℕ) (bs : List ℕ) (r : Option (Bor (List ℕ) × Bor (List ℕ))) → MatchOption r ((i : ℕ) → i < length bs → get_or bs i 0 ≢ c) (λ x. (bs ≡ x.0.now ++ (c ∷ x.1.now)) × ((i : ℕ) → i < length x.0.now → get_or x.0.now i 0 ≢ c)) → parts r ≡ cut c bs
cut-by_cases c bs None h = sym (cut-none c bs h)
cut-by_cases c bs (Some x) h = sym (ap (cut c) h.0 ∙ cut-first c x.0.now x.1.now h.1)

-- what `split_once` gives at an ASCII character
pub cut-split_once : (c : ℕ) (bs : List ℕ) (r : Option (Bor (List ℕ) × Bor (List ℕ))) → IsSplitOnceResult c bs r → c < 128 → parts r ≡ cut c bs
cut-split_once c bs r h small = cut-by_cases c bs r (split_parts c bs r h small)

absent-from : (c i : ℕ) (xs : List ℕ) → position_from (λ b. eqb b c) i xs ≡ None → cut c xs ≡ None
absent-from c i [] e = refl
absent-from c i (x ∷ xs) e = by (eqb x c) e (absent-from c (i + 1) xs)
  where
    by : (b : Bool) → cond {A = Option ℕ} b (Some i) (position_from (λ b. eqb b c) (i + 1) xs) ≡ None → (position_from (λ b. eqb b c) (i + 1) xs ≡ None → cut c xs ≡ None)
        → cond {A = Option (List ℕ × List ℕ)} b (Some ([], xs)) (option_map (λ p. (x ∷ p.0, p.1)) (cut c xs)) ≡ None
    by true e f = absurd cc
    by false e f =
        let longer : List ℕ × List ℕ → List ℕ × List ℕ = λ p. (x ∷ p.0, p.1)
        in ap (option_map longer) (f e)

-- where no byte is found, there is no cut
pub cut-absent : (c : ℕ) (bs : List ℕ) → position (λ b. eqb b c) bs ≡ None → cut c bs ≡ None
cut-absent c bs e = absent-from c 0 bs (sym (position_from-zero (λ b. eqb b c) bs) ∙ e)

-- the cut at the place where the byte is found first
pub cut-found : (c : ℕ) (bs : List ℕ) (i : ℕ) → position (λ b. eqb b c) bs ≡ Some i → cut c bs ≡ Some (take i bs, drop (i + 1) bs)
cut-found c bs i e =
    let found = position-Some (λ b. eqb b c) bs i 0 e
    in let here : get_or bs i 0 ≡ c = eqb-true (get_or bs i 0) c found.1
    in let whole : bs ≡ take i bs ++ c ∷ drop (i + 1) bs = sym (take-append-drop i bs) ∙ ap (λ r. take i bs ++ r) (drop_more bs i 0 found.0 ∙ ap (λ b. b ∷ drop (i + 1) bs) here)
    in ap (cut c) whole ∙ cut-first c (take i bs) (drop (i + 1) bs) (λ k l. absent k l found.2)
  where
    absent : (k : ℕ) → k < length (take i bs) → ((k : ℕ) → k < i → eqb (get_or bs k 0) c ≡ false) → get_or (take i bs) k 0 ≢ c
    absent k l before e2 =
        let below : k < i = omega (arith, length-take i bs)
        in eqb-false (get_or bs k 0) c (before k below) (sym (get_or-take i bs k 0 below) ∙ e2)

-- where a text does not begin with the byte, nothing is behind it
behind-none : (c : ℕ) (bs : List ℕ) → ((rest : List ℕ) → bs ≢ c ∷ rest) → behind c bs ≡ None
behind-none c [] h = refl
behind-none c (x ∷ xs) h =
    let here : eqb x c ≡ false = ne_eqb x c (λ e. h xs (ap (λ y. y ∷ xs) e))
    in rw here

behind-some : (c : ℕ) (rest : List ℕ) → behind c (c ∷ rest) ≡ Some rest
behind-some c rest =
    let here : eqb c c ≡ true = eq-eqb c c refl
    in rw here

-- what `strip_prefix` gives at a character
pub behind-stripped : (c : ℕ) (bs : List ℕ) (r : Option (Bor (List ℕ))) → MatchOption r ((rest : List ℕ) → bs ≢ c ∷ rest) (λ x. bs ≡ c ∷ x.now) → option_map (λ x. x.now) r ≡ behind c bs
behind-stripped c bs None h = sym (behind-none c bs h)
behind-stripped c bs (Some x) h = sym (ap (behind c) h ∙ behind-some c x.now)

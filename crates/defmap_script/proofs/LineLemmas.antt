-- Splitting a line into words, and a text into lines.
use Rattle.std.proofs.Common.{◌≡◌, ℕ, ◌<◌, Bool, true, false, not, List, [], ◌∷◌, Option, Some, None, length, arith, refl, ◌∙◌, ap, cond, eqb, filter, suc}
use Rattle.std.proofs.lemmas.Option.{same_Some}
use Rattle.std.specs.Option.{option_map}
use Rattle.std.specs.List.{slice_split, onto_first}
use Rattle.defmap_script.specs.Lines.{words}
use Rattle.defmap_script.specs.Words.{cut}

-- the parts of a list round a byte, by its first cut
abbrev pieces : ℕ → List ℕ → Option (List ℕ × List ℕ) → List (List ℕ)
pieces c bs None = bs ∷ []
pieces c bs (Some p) = p.0 ∷ slice_split (λ b. eqb b c) p.1

slice_split-cut : (c : ℕ) (bs : List ℕ) → slice_split (λ b. eqb b c) bs ≡ pieces c bs (cut c bs)
slice_split-cut c [] = refl
slice_split-cut c (x ∷ xs) = by (eqb x c) (cut c xs) (slice_split-cut c xs)
  where
    by : (b : Bool) (o : Option (List ℕ × List ℕ)) → slice_split (λ b. eqb b c) xs ≡ pieces c xs o
        → cond b ([] ∷ slice_split (λ b. eqb b c) xs) (onto_first x (slice_split (λ b. eqb b c) xs)) ≡ pieces c (x ∷ xs) (cond b (Some ([], xs)) (option_map (λ p. (x ∷ p.0, p.1)) o))
    by true o h = refl
    by false None h = ap (onto_first x) h
    by false (Some p) h = ap (onto_first x) h

abbrev is_word : List ℕ → Bool
is_word w = not (eqb (length w) 0)

words-pieces : (bs : List ℕ) (o : Option (List ℕ × List ℕ)) → cut 32 bs ≡ o → words bs ≡ filter is_word (pieces 32 bs o)
words-pieces bs o e = ap (filter is_word) (slice_split-cut 32 bs ∙ ap (pieces 32 bs) e)

-- where no space is left, the text is the last word
pub words-last : (bs : List ℕ) → cut 32 bs ≡ None → eqb (length bs) 0 ≡ false → words bs ≡ bs ∷ []
words-last bs e h = words-pieces bs None e ∙ rw h

-- a part that is no word falls away
pub words-skip : (bs w r : List ℕ) → cut 32 bs ≡ Some (w, r) → eqb (length w) 0 ≡ true → words bs ≡ words r
words-skip bs w r e h = words-pieces bs (Some (w, r)) e ∙ rw h

-- a part that is a word is the first
pub words-first : (bs w r : List ℕ) → cut 32 bs ≡ Some (w, r) → eqb (length w) 0 ≡ false → words bs ≡ w ∷ words r
words-first bs w r e h = words-pieces bs (Some (w, r)) e ∙ rw h

behind : (v q w r : List ℕ) → ◌≡◌ {A = Option (List ℕ × List ℕ)} (Some (v, q)) (Some (w, r)) → q ≡ r
behind v q w r e = ap (λ (p : List ℕ × List ℕ). p.1) (same_Some (v, q) (w, r) e)

-- what is behind a cut is shorter
pub cut-shorter : (c : ℕ) (bs w r : List ℕ) → cut c bs ≡ Some (w, r) → length r < length bs
cut-shorter c [] w r e = absurd cc
cut-shorter c (x ∷ xs) w r e = by (eqb x c) (cut c xs) refl e (cut-shorter c xs)
  where
    by : (b : Bool) (o : Option (List ℕ × List ℕ)) → cut c xs ≡ o → cond {A = Option (List ℕ × List ℕ)} b (Some ([], xs)) (option_map (λ p. (x ∷ p.0, p.1)) o) ≡ Some (w, r)
        → ((v q : List ℕ) → cut c xs ≡ Some (v, q) → length q < length xs) → length r < suc (length xs)
    by true o h e shorter = rw (← behind [] xs w r e) (omega arith)
    by false None h e shorter = absurd cc
    by false (Some (v, q)) h e shorter =
        let below : length q < length xs = shorter v q h
        in rw (← behind (x ∷ v) q w r e) (omega arith)

-- the lines of a text whose first line feed is met, and of one that has none
pub split-some : (c : ℕ) (bs w r : List ℕ) → cut c bs ≡ Some (w, r) → slice_split (λ b. eqb b c) bs ≡ w ∷ slice_split (λ b. eqb b c) r
split-some c bs w r e = slice_split-cut c bs ∙ ap (pieces c bs) e

pub split-none : (c : ℕ) (bs : List ℕ) → cut c bs ≡ None → slice_split (λ b. eqb b c) bs ≡ bs ∷ []
split-none c bs e = slice_split-cut c bs ∙ ap (pieces c bs) e

-- the word that is read, before the words that are left
pub then : {A : Type 0} {xs rest more : List A} {x : A} → xs ≡ x ∷ rest → rest ≡ more → xs ≡ x ∷ more
then {x = x} h t = h ∙ ap (λ ws. x ∷ ws) t

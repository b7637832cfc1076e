-- Newlines, their places, and the columns behind them.
use Rattle.std.proofs.Common.{◌≡◌, ◌+◌, ◌<◌, ◌≤◌, ◌++◌, ◌∷◌, [], inl, inr, ℕ, zero, suc, Bool, true, false, cond, List, length, take, drop, get_or, fold, refl, arith, ap, sym, ◌∙◌, subst, add-zero}
use Rattle.std.specs.List.{count_by}
use Rattle.std.specs.List.Sorted.{IsNonDecreasing}
use Rattle.std.specs.Prelude.{slice_index}
use Rattle.std.proofs.lemmas.Bool.{cases_lt}
use Rattle.std.proofs.lemmas.List.{take-take, take-append-drop}
use Rattle.std.proofs.lemmas.List.Sums.{count_by_more_yes, fold-append, fold_more, sum_by-append, sum_by-cons, sum_by-take-le}
use Rattle.std.proofs.lemmas.List.Sorted.{IsNonDecreasingBy-from_default}
use Rattle.crate_items.specs.LineIndexes.{begins_char, is_newline, next_column, starts_from}

-- a newline at a place, with so many before it
pub record IsNewline (text : List ℕ) (many n : ℕ) : Type 0 where
  pub within : n < length text
  pub newline : is_newline (get_or text n 0) ≡ true
  pub before : count_by is_newline (take n text) ≡ many

cons-newline : (b : ℕ) (bs : List ℕ) (j n : ℕ) → IsNewline bs j n → IsNewline (b ∷ bs) ((let one : ℕ = cond (is_newline b) 1 0 in one) + j) (suc n)
cons-newline b bs j n is = record {
  within = omega (arith, is.within);
  newline = is.newline;
  before = sum_by-cons (λ x. cond (is_newline x) 1 0) b (take n bs) ∙ ap (λ m. cond (is_newline b) 1 0 + m) is.before;
}

abbrev Found : ℕ → ℕ → List ℕ → Bool → ℕ → Type 0
Found i b bs t j = (n : ℕ) × (get_or (cond t ((i + 1) ∷ starts_from (i + 1) bs) (starts_from (i + 1) bs)) j 0 ≡ i + n + 1) × IsNewline (b ∷ bs) j n

-- each start stands behind a newline, with as many before it as starts
pub start-is : (i : ℕ) (text : List ℕ) (j : ℕ) → j < length (starts_from i text) → (n : ℕ) × (get_or (starts_from i text) j 0 ≡ i + n + 1) × IsNewline text j n
start-is i [] j w = absurd (omega arith)
start-is i (b ∷ bs) j w = by (is_newline b) refl j w (start-is (i + 1) bs)
  where
    by : (t : Bool) → is_newline b ≡ t → (j : ℕ) → j < length (cond t ((i + 1) ∷ starts_from (i + 1) bs) (starts_from (i + 1) bs))
        → ((j : ℕ) → j < length (starts_from (i + 1) bs) → (n : ℕ) × (get_or (starts_from (i + 1) bs) j 0 ≡ i + 1 + n + 1) × IsNewline bs j n) → Found i b bs t j
    by true e zero w rest = (0, omega arith, record { within = omega arith; newline = e; before = refl })
    by true e (suc j) w rest =
        let h = rest j (omega arith) in
        (suc h.0, omega (arith, h.1), subst (λ m. IsNewline (b ∷ bs) m (suc h.0)) (let f : cond (is_newline b) 1 0 + j ≡ suc j = ap (λ t. cond t 1 0 + j) e ∙ (omega arith) in f) (cons-newline b bs j h.0 h.2))
    by false e j w rest =
        let h = rest j w in
        (suc h.0, omega (arith, h.1), subst (λ m. IsNewline (b ∷ bs) m (suc h.0)) (let f : cond (is_newline b) 1 0 + j ≡ j = ap (λ t. cond t 1 0 + j) e ∙ (omega arith) in f) (cons-newline b bs j h.0 h.2))

-- there are as many starts as newlines
pub length-starts : (i : ℕ) (text : List ℕ) → length (starts_from i text) ≡ count_by is_newline text
length-starts i [] = refl
length-starts i (b ∷ bs) = by (is_newline b) refl (length-starts (i + 1) bs)
  where
    by : (t : Bool) → is_newline b ≡ t → length (starts_from (i + 1) bs) ≡ count_by is_newline bs
        → length (cond t ((i + 1) ∷ starts_from (i + 1) bs) (starts_from (i + 1) bs)) ≡ count_by is_newline (b ∷ bs)
    by true e rest =
        let f : count_by is_newline (b ∷ bs) ≡ 1 + count_by is_newline bs = sum_by-cons (λ x. cond (is_newline x) 1 0) b bs ∙ ap (λ t. cond t 1 0 + count_by is_newline bs) e in
        omega (arith, f, rest)
    by false e rest =
        let f : count_by is_newline (b ∷ bs) ≡ 0 + count_by is_newline bs = sum_by-cons (λ x. cond (is_newline x) 1 0) b bs ∙ ap (λ t. cond t 1 0 + count_by is_newline bs) e in
        omega (arith, f, rest)

-- a longer front has no fewer newlines
count-le : (text : List ℕ) (m n : ℕ) → m ≤ n → count_by is_newline (take m text) ≤ count_by is_newline (take n text)
count-le text m n le =
    subst (λ xs. count_by is_newline xs ≤ count_by is_newline (take n text)) (take-take m n text le) (sum_by-take-le (λ x. cond (is_newline x) 1 0) (take n text) m)

-- behind a newline one more
count-behind : (text : List ℕ) (j n : ℕ) → IsNewline text j n → count_by is_newline (take (n + 1) text) ≡ j + 1
count-behind text j n is = count_by_more_yes is_newline text n 0 is.within is.newline ∙ ap (λ m. m + 1) is.before

-- starts rise
pub starts-rise : (text : List ℕ) → IsNonDecreasing (starts_from 0 text)
starts-rise text = IsNonDecreasingBy-from_default (λ x. x) (starts_from 0 text) 0 rise
  where
    rise : (i j : ℕ) → i ≤ j → j < length (starts_from 0 text) → get_or (starts_from 0 text) i 0 ≤ get_or (starts_from 0 text) j 0
    rise i j le w =
        let a = start-is 0 text i (omega (arith, le, w)) in
        let b = start-is 0 text j w in
        elim (cases_lt b.0 a.0) [
          | inl lt ↦
              let f = count-le text (b.0 + 1) a.0 (omega (arith, lt)) in
              let g = count-behind text j b.0 b.2 in
              absurd (omega (arith, f, g, a.2.before, le))
          | inr ge ↦ omega (arith, ge, a.1, b.1)
        ]

-- as many newlines stand before an offset as starts are not past it
pub count-before : (text : List ℕ) (offset k : ℕ) → k ≤ length (starts_from 0 text)
    → ((j : ℕ) → j < k → slice_index (starts_from 0 text) j ≤ offset) → ((j : ℕ) → k ≤ j → j < length (starts_from 0 text) → offset < slice_index (starts_from 0 text) j)
    → count_by is_newline (take offset text) ≡ k
count-before text offset k bound through past = omega (arith, most, least k bound through)
  where
    most : count_by is_newline (take offset text) ≤ k
    most = elim (cases_lt k (length (starts_from 0 text))) [
      | inl more ↦
          let a = start-is 0 text k more in
          let p = past k (omega arith) more in
          let f = count-le text offset a.0 (omega (arith, a.1, p)) in
          omega (arith, f, a.2.before)
      | inr all ↦ let f = sum_by-take-le (λ x. cond (is_newline x) 1 0) text offset in omega (arith, f, length-starts 0 text, all, bound)
    ]

    least : (k : ℕ) → k ≤ length (starts_from 0 text) → ((j : ℕ) → j < k → slice_index (starts_from 0 text) j ≤ offset) → k ≤ count_by is_newline (take offset text)
    least zero b t = omega arith
    least (suc k) b t =
        let a = start-is 0 text k (omega (arith, b)) in
        let p = t k (omega arith) in
        let f = count-le text (a.0 + 1) offset (omega (arith, a.1, p)) in
        let g = count-behind text k a.0 a.2 in
        omega (arith, f, g)

-- along bytes with no newline each character takes a column
pub columns : (c : ℕ) (bs : List ℕ) → count_by is_newline bs ≡ 0 → fold next_column c bs ≡ c + count_by begins_char bs
columns c [] none = sym (add-zero c)
columns c (b ∷ bs) none = by (is_newline b) (begins_char b) refl refl (columns c bs) (columns (c + 1) bs)
  where
    cons : (p : ℕ → Bool) → count_by p (b ∷ bs) ≡ cond (p b) 1 0 + count_by p bs
    cons p = sum_by-cons (λ x. cond (p x) 1 0) b bs

    by : (t u : Bool) → is_newline b ≡ t → begins_char b ≡ u → (count_by is_newline bs ≡ 0 → fold next_column c bs ≡ c + count_by begins_char bs) → (count_by is_newline bs ≡ 0 → fold next_column (c + 1) bs ≡ c + 1 + count_by begins_char bs)
        → fold next_column (cond t 1 (cond u (c + 1) c)) bs ≡ c + count_by begins_char (b ∷ bs)
    by true u e f same more = let g = cons is_newline ∙ ap (λ t. cond t 1 0 + count_by is_newline bs) e in absurd (omega (arith, g, none))
    by false true e f same more =
        let g = cons is_newline ∙ ap (λ t. cond t 1 0 + count_by is_newline bs) e in
        let h = cons begins_char ∙ ap (λ t. cond t 1 0 + count_by begins_char bs) f in
        let r = more (omega (arith, g, none)) in omega (arith, r, h)
    by false false e f same more =
        let g = cons is_newline ∙ ap (λ t. cond t 1 0 + count_by is_newline bs) e in
        let h = cons begins_char ∙ ap (λ t. cond t 1 0 + count_by begins_char bs) f in
        let r = same (omega (arith, g, none)) in omega (arith, r, h)

-- the column of an offset in a line that begins behind a newline
pub column-behind : (text : List ℕ) (c j n offset : ℕ) → IsNewline text j n → n + 1 ≤ offset → count_by is_newline (take offset text) ≡ j + 1
    → fold next_column c (take offset text) ≡ 1 + count_by begins_char (drop (n + 1) (take offset text))
column-behind text c j n offset is le count =
    let front : take (n + 1) (take offset text) ≡ take (n + 1) text = take-take (n + 1) offset text le in
    let halves : take (n + 1) text ++ drop (n + 1) (take offset text) ≡ take offset text = ap (λ xs. xs ++ drop (n + 1) (take offset text)) (sym front) ∙ take-append-drop (n + 1) (take offset text) in
    let sums = sum_by-append (λ x. cond (is_newline x) 1 0) (take (n + 1) text) (drop (n + 1) (take offset text)) in
    let whole = ap (count_by is_newline) halves in
    let none : count_by is_newline (drop (n + 1) (take offset text)) ≡ 0 = omega (arith, sums, whole, count, count-behind text j n is) in
    let one : fold next_column c (take (n + 1) text) ≡ 1 = fold_more next_column c text n 0 is.within ∙ ap (λ t. cond t 1 (cond (begins_char (get_or text n 0)) (fold next_column c (take n text) + 1) (fold next_column c (take n text)))) is.newline in
    ap (fold next_column c) (sym halves)
    ∙ fold-append next_column c (take (n + 1) text) (drop (n + 1) (take offset text))
    ∙ ap (λ d. fold next_column d (drop (n + 1) (take offset text))) one
    ∙ columns 1 (drop (n + 1) (take offset text)) none

-- the line of an offset begins before it
pub start-before : (text : List ℕ) (offset k : ℕ) → k + 1 ≤ length (starts_from 0 text) → count_by is_newline (take offset text) ≡ k + 1 → slice_index (starts_from 0 text) k ≤ offset
start-before text offset k w count =
    let a = start-is 0 text k (omega (arith, w)) in
    elim (cases_lt a.0 offset) [
      | inl lt ↦ omega (arith, lt, a.1)
      | inr ge ↦ let f = count-le text offset a.0 ge in absurd (omega (arith, f, a.2.before, count))
    ]

-- the column of an offset in a line that is not the first
pub column-at : (text : List ℕ) (c offset k : ℕ) → k < length (starts_from 0 text) → count_by is_newline (take offset text) ≡ k + 1
    → 1 + count_by begins_char (drop (slice_index (starts_from 0 text) k) (take offset text)) ≡ fold next_column c (take offset text)
column-at text c offset k w count =
    let a = start-is 0 text k w in
    let e : slice_index (starts_from 0 text) k ≡ a.0 + 1 = omega (arith, a.1) in
    let le : a.0 + 1 ≤ offset = omega (arith, e, start-before text offset k (omega (arith, w)) count) in
    ap (λ s. 1 + count_by begins_char (drop s (take offset text))) e ∙ sym (column-behind text c k a.0 offset a.2 le count)

-- the same, where the starts are known by another name
pub count-before-in : (text starts : List ℕ) (offset k : ℕ) → starts ≡ starts_from 0 text → k ≤ length starts → ((j : ℕ) → j < k → slice_index starts j ≤ offset)
    → ((j : ℕ) → k ≤ j → j < length starts → offset < slice_index starts j) → count_by is_newline (take offset text) ≡ k
count-before-in text starts offset k e bound through past =
    count-before text offset k (subst (λ xs. k ≤ length xs) e bound) (λ j w. subst (λ xs. slice_index xs j ≤ offset) e (through j w))
    (λ j le w. subst (λ xs. offset < slice_index xs j) e (past j le (subst (λ xs. j < length xs) (sym e) w)))

-- What a string stands for, piece by piece.
use Rattle.std.proofs.Common.{◌≡◌, ◌-◌, ◌++◌, ◌<◌, ℕ, zero, suc, Bool, true, false, List, [], ◌∷◌, length, drop, refl, ap, sym, ◌∙◌, arith, cond}
use Rattle.std.specs.Prelude.{◌&&◌, Some, None, nat_eq}
use Rattle.std.specs.List.{starts_with}
use Rattle.std.specs.Str.{bytes_eq}
use Rattle.item_tree.specs.Strings.{bytes_of, first_piece, matched_len, value_from}
use Rattle.item_tree.specs.declared.lexer.strings.StringPiece.{StringPiece}

skipped : (raw : Bool) (n : ℕ) (bs : List ℕ) → value_from raw n bs ≡ value_from raw 0 (drop n bs)
skipped raw zero bs = refl
skipped raw (suc n) [] = refl
skipped raw (suc n) (b ∷ bs) = skipped raw n bs

pub first_of : (raw : Bool) (bs : List ℕ) (p : StringPiece) → 0 < length bs → p ≡ first_piece raw bs → 0 < p.len
    → value_from raw 0 bs ≡ bytes_of p.stands_for ++ value_from raw 0 (drop p.len bs)
first_of raw [] p some is forward = absurd (omega arith)
first_of raw (b ∷ bs) p some is forward =
    let more : p.len ≡ suc (p.len - 1) = omega arith in
    let there : value_from raw (p.len - 1) bs ≡ value_from raw 0 (drop p.len (b ∷ bs))
    = skipped raw (p.len - 1) bs ∙ ap (λ n. value_from raw 0 (drop n (b ∷ bs))) (sym more) in
    ap (λ (q : StringPiece). bytes_of q.stands_for ++ value_from raw (q.len - 1) bs) (sym is) ∙ ap (λ xs. bytes_of p.stands_for ++ xs) there

-- a text that begins so is another where that begins so, and goes on as this one
split : (xs v w : List ℕ) → bytes_eq (xs ++ v) w ≡ (starts_with nat_eq w xs && bytes_eq v (drop (length xs) w))
split [] v w = refl
split (a ∷ xs) v [] = refl
split (a ∷ xs) v (b ∷ w) = by (nat_eq a b) (split xs v w)
  where
    by : (x : Bool) → bytes_eq (xs ++ v) w ≡ (starts_with nat_eq w xs && bytes_eq v (drop (length xs) w))
        → (x && bytes_eq (xs ++ v) w) ≡ ((x && starts_with nat_eq w xs) && bytes_eq v (drop (length xs) w))
    by true e = e
    by false e = refl

some_is : (x : Bool) (n m : ℕ) → cond x (Some n) None ≡ Some m → (x ≡ true) × (n ≡ m)
some_is true n m e = (refl, cc)
some_is false n m e = cc

none_is : (x : Bool) (n : ℕ) → cond x (Some n) None ≡ None → x ≡ false
none_is true n e = cc
none_is false n e = refl

pub goes_on : (raw : Bool) (bs rest : List ℕ) (p : StringPiece) (n : ℕ) → 0 < length bs → p ≡ first_piece raw bs → 0 < p.len → matched_len rest p.stands_for ≡ Some n
    → bytes_eq (value_from raw 0 (drop p.len bs)) (drop n rest) ≡ bytes_eq (value_from raw 0 bs) rest
goes_on raw bs rest p n some is forward e =
    let own = bytes_of p.stands_for in
    let found = some_is (starts_with nat_eq rest own) (length own) n e in
    let v = value_from raw 0 (drop p.len bs) in
    sym
    (ap (λ xs. bytes_eq xs rest) (first_of raw bs p some is forward)
    ∙ (split own v rest ∙ (ap (λ x. x && bytes_eq v (drop (length own) rest)) found.0 ∙ ap (λ m. bytes_eq v (drop m rest)) found.1)))

pub differs : (raw : Bool) (bs rest : List ℕ) (p : StringPiece) → 0 < length bs → p ≡ first_piece raw bs → 0 < p.len → matched_len rest p.stands_for ≡ None
    → bytes_eq (value_from raw 0 bs) rest ≡ false
differs raw bs rest p some is forward e =
    let own = bytes_of p.stands_for in
    let v = value_from raw 0 (drop p.len bs) in
    ap (λ xs. bytes_eq xs rest) (first_of raw bs p some is forward)
    ∙ (split own v rest ∙ ap (λ x. x && bytes_eq v (drop (length own) rest)) (none_is (starts_with nat_eq rest own) (length own) e))

-- Lists that are made in so many steps, and what threads took on their way.
use Rattle.std.proofs.Common.{◌≡◌, ◌∙◌, ℕ, zero, suc, ◌-◌, ◌≢◌, Some, None, List, [], ◌∷◌, ◌++◌, slice_get, refl, ap, sym, arith, cond, append_assoc}
use Rattle.std.proofs.lemmas.Bool.{eq-eqb, ne_eqb}
use Rattle.macro_rules.specs.Visits.{passage, passage_at, passages_of}
use Rattle.macro_rules.specs.declared.matching.Thread.{Thread}

-- one more element of a list that is made in so many steps
pub made_step : {X : Type 0} (f : ℕ → List X) (x : X) (n : ℕ) (xs ys : List X) → ((k : ℕ) → f (suc k) ≡ x ∷ f k) → n ≢ 0 → ys ≡ xs ++ x ∷ [] → ys ++ f (n - 1) ≡ xs ++ f n
made_step f x zero xs ys more some is = absurd (some refl)
made_step f x (suc n) xs ys more some is =
    let less : suc n - 1 ≡ n = omega arith in
    ap (λ k. ys ++ f k) less ∙ (ap (λ l. l ++ f n) is ∙ (append_assoc xs (x ∷ []) (f n) ∙ sym (ap (λ l. xs ++ l) (more n))))

pub passages_none : (log : List Thread) (n at behind : ℕ) → n ≢ 0 → None ≡ slice_get log at → passages_of log n at behind ≡ []
passages_none log zero at behind some e = absurd (some refl)
passages_none log (suc n) at behind some e = ap (λ o. passage_at o at behind (passages_of log n)) (sym e)

pub passages_last : (log : List Thread) (n at behind : ℕ) (t : Thread) → n ≢ 0 → at ≡ 0 → Some t ≡ slice_get log at → passages_of log n at behind ≡ passage t behind ∷ []
passages_last log zero at behind t some is e = absurd (some refl)
passages_last log (suc n) at behind t some is e =
    ap (λ o. passage_at o at behind (passages_of log n)) (sym e) ∙ ap (λ b. passage t behind ∷ cond b [] (passages_of log n t.before t.place)) (eq-eqb at 0 is)

pub passages_next : (log : List Thread) (n at behind : ℕ) (t : Thread) → n ≢ 0 → at ≢ 0 → Some t ≡ slice_get log at → passages_of log n at behind ≡ passage t behind ∷ passages_of log (n - 1) t.before t.place
passages_next log zero at behind t some is e = absurd (some refl)
passages_next log (suc n) at behind t some is e =
    let less : suc n - 1 ≡ n = omega arith in
    ap (λ o. passage_at o at behind (passages_of log n)) (sym e)
    ∙ (ap (λ b. passage t behind ∷ cond b [] (passages_of log n t.before t.place)) (ne_eqb at 0 is) ∙ sym (ap (λ k. passage t behind ∷ passages_of log k t.before t.place) less))

-- Runs of scripts by induction over their lines.
use Rattle.std.proofs.Common.{◌≡◌, ◌⊎◌, ℕ, ◌+◌, ◌≤◌, List, [], ◌∷◌, ◌++◌, Ok, length, arith, refl, sym, ◌∙◌, ap, subst, inl, inr, append_assoc, append-nil, eqb}
use Rattle.std.proofs.lemmas.List.Splits.{length-slice_split}
use Rattle.std.proofs.lemmas.List.Sums.{count_by-le-length}
use Rattle.defmap_script.specs.declared.fault.Fault.{Fault}
use Rattle.defmap_script.specs.declared.script.RunEnd.{RunEnd}
use Rattle.defmap_script.specs.declared.script.RunEnd.TheVariants.{Done}
use Rattle.defmap_script.specs.Engine.{Tool, IsLineStep}
use Rattle.defmap_script.specs.Faults.{refusal, IsRefused}
use Rattle.defmap_script.specs.Runs.{Runs, lines, end_of}

-- A run of ls from t may print q and then go on as a run of `rest` from u does.
pub record GoesOn (t : Tool) (n : ℕ) (ls : List (List ℕ)) (q : List ℕ) (u : Tool) (k : ℕ) (rest : List (List ℕ)) : Type 0 where
  pub by : (more : List ℕ) (end : RunEnd) → Runs u k rest more end → Runs t n ls (q ++ more) end

pub goes_on-begin : (t : Tool) (n : ℕ) (ls : List (List ℕ)) → GoesOn t n ls [] t n ls
goes_on-begin t n ls = record { by = λ more end r. r }

pub goes_on-line : (t u v : Tool) (n k : ℕ) (ls rest : List (List ℕ)) (q p l : List ℕ) → GoesOn t n ls q u k (l ∷ rest) → IsLineStep u l (Ok (v, p))
    → GoesOn t n ls (q ++ p) v (k + 1) rest
goes_on-line t u v n k ls rest q p l h e = record {
  by = λ more end r. subst (λ printed. Runs t n ls printed end) (sym (append_assoc q p more)) (h.by (p ++ more) end (inl ((v, p), more, e, refl, r)));
}

pub goes_on-end : (t u : Tool) (n k : ℕ) (ls : List (List ℕ)) (q : List ℕ) → GoesOn t n ls q u k [] → Runs t n ls q Done
goes_on-end t u n k ls q h = subst (λ printed. Runs t n ls printed Done) (append-nil q) (h.by [] Done (refl, refl))

pub goes_on-refused : (t u : Tool) (n k : ℕ) (ls rest : List (List ℕ)) (q p l : List ℕ) (f : Fault) → GoesOn t n ls q u k (l ∷ rest)
    → IsRefused (IsLineStep u l) f → (p ≡ refusal k f) ⊎ (p ≡ []) → Runs t n ls (q ++ p) (end_of f)
goes_on-refused t u n k ls rest q p l f h why line = h.by p (end_of f) (inr (f, why, line, refl))

-- an input has at most one line more than bytes
pub length-lines : (input : List ℕ) → length (lines input) ≤ length input + 1
length-lines input = omega (arith, length-slice_split (λ b. eqb b 10) input, count_by-le-length (λ b. eqb b 10) input)

-- what a run has printed, and that it goes on from there
abbrev pub Printed : List ℕ → List ℕ → Tool → List (List ℕ) → Tool → ℕ → List (List ℕ) → Type 0
Printed before now t ls u k rest = (q : List ℕ) × (now ≡ before ++ q) × GoesOn t 1 ls q u k rest

abbrev pub Ran : List ℕ → List ℕ → Tool → List (List ℕ) → RunEnd → Type 0
Ran before now t ls end = (q : List ℕ) × (now ≡ before ++ q) × Runs t 1 ls q end

longer : (a b c q p : List ℕ) → b ≡ a ++ q → c ≡ b ++ p → c ≡ a ++ (q ++ p)
longer a b c q p e h = h ∙ ap (λ o. o ++ p) e ∙ append_assoc a q p

pub printed-line : (a b c l p : List ℕ) (ls rest : List (List ℕ)) (t u v : Tool) (k : ℕ) → Printed a b t ls u k (l ∷ rest) → IsLineStep u l (Ok (v, p)) → c ≡ b ++ p
    → Printed a c t ls v (k + 1) rest
printed-line a b c l p ls rest t u v k (q, e, g) step h = (q ++ p, longer a b c q p e h, goes_on-line t u v 1 k ls rest q p l g step)

pub ran-end : (a b : List ℕ) (ls rest : List (List ℕ)) (t u : Tool) (k : ℕ) → rest ≡ [] → Printed a b t ls u k rest → Ran a b t ls Done
ran-end a b ls rest t u k ended (q, e, g) = (q, e, goes_on-end t u 1 k ls q (subst (λ left. GoesOn t 1 ls q u k left) ended g))

pub ran-refused : (a b c l : List ℕ) (ls rest : List (List ℕ)) (t u : Tool) (k : ℕ) (f : Fault) → Printed a b t ls u k (l ∷ rest)
    → IsRefused (IsLineStep u l) f → (c ≡ b ++ refusal k f) ⊎ (c ≡ b) → Ran a c t ls (end_of f)
ran-refused a b c l ls rest t u k f (q, e, g) why (inl h) = (q ++ refusal k f, longer a b c q (refusal k f) e h, goes_on-refused t u 1 k ls rest q (refusal k f) l f g why (inl refl))
ran-refused a b c l ls rest t u k f (q, e, g) why (inr h) = (q ++ [], longer a b c q [] e (h ∙ sym (append-nil b)), goes_on-refused t u 1 k ls rest q [] l f g why (inr refl))

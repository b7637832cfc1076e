-- Listings of the names of modules.
use native.Mathlib.Omega.{arith}
use Rattle.std.proofs.Common.{◌≡◌, ◌∙◌, ◌<◌, ◌≤◌, ◌+◌, ap, refl, subst, sym, false, inl, inr, length, zero, suc, ℕ, List, [], ◌∷◌, ◌++◌}
use Rattle.std.specs.List.{Contains}
use Rattle.std.proofs.lemmas.Bool.{cases_lt, ltb-false}
use Rattle.dm_base.specs.declared.ids.ModuleId.{ModuleId}
use Rattle.dm_base.specs.Names.{Name}
use Rattle.dm_maps.specs.declared.check.held.HeldId.TheVariants as held
use Rattle.dm_maps.specs.Known.{knows}
use Rattle.dm_maps.specs.World.{World, scope_of}
use Rattle.dm_scope.specs.Scope.{Scope}
use Rattle.dm_scope.specs.Sorted.{names_of}
use Rattle.dm_imports.specs.Supporting.{names_at}
use Rattle.dm_imports.proofs.ListLemmas.{past-scope}

module _ {V : Type 0} (f : V → List Name) where
  before : (vs : List V) (v : V) (i : ℕ) → i < length vs → names_at f (vs ++ v ∷ []) i ≡ names_at f vs i
  before [] v i lt = absurd (omega arith)
  before (x ∷ xs) v zero lt = refl
  before (x ∷ xs) v (suc i) lt = before xs v i (omega arith)

  last : (vs : List V) (v : V) → names_at f (vs ++ v ∷ []) (length vs) ≡ f v
  last [] v = refl
  last (x ∷ xs) v = last xs v

  -- all names of the modules before a number are listed
  abbrev pub ListsBefore : World → List V → ℕ → Type 0
  ListsBefore w vs i = (m : ModuleId) → m.0 < i → (n : Name) → Contains (names_of (scope_of w m)) n → Contains (names_at f vs m.0) n

  -- with those of one module more
  pub lists-more : (w : World) (vs : List V) (v : V) (i : ℕ) → length vs ≡ i → ListsBefore w vs i
      → ((n : Name) → Contains (names_of (scope_of w (record { 0 = i }))) n → Contains (f v) n) → ListsBefore w (vs ++ v ∷ []) (i + 1)
  lists-more w vs v i len all own m less n has = elim (cases_lt m.0 i) [
    | inl h ↦ subst (λ (ns : List Name). Contains ns n) (sym (before vs v m.0 (omega (arith, h, len)))) (all m h n has)
    | inr h ↦
        let same : i ≡ m.0 = omega arith in
        let here : names_at f (vs ++ v ∷ []) m.0 ≡ f v = ap (names_at f (vs ++ v ∷ [])) (sym same ∙ sym len) ∙ last vs v in
        subst (λ (ns : List Name). Contains ns n) (sym here) (own n (subst (λ (j : ℕ). Contains (names_of (scope_of w (record { 0 = j }))) n) (sym same) has))
  ]

  nothing : {n : Name} → Contains [] n → ⊥
  nothing h = let lt = h.1 in omega arith

  -- those of all modules are, where the next is not the world's
  pub lists-all : (w : World) (vs : List V) (i : ℕ) → ListsBefore w vs i → knows w (held.Module (record { 0 = i })) ≡ false
      → (m : ModuleId) (n : Name) → Contains (names_of (scope_of w m)) n → Contains (names_at f vs m.0) n
  lists-all w vs i all unknown m n has = elim (cases_lt m.0 i) [
    | inl h ↦ all m h n has
    | inr h ↦
        let past = ltb-false i (length w.places) unknown in
        absurd (nothing (subst (λ (s : Scope). Contains (names_of s) n) (past-scope w m (omega (arith, past, h))) has))
  ]

-- The open modules, as they are found.
use Rattle.std.proofs.Common.{◌≡◌, ◌∙◌, ◌<◌, ◌||◌, ◌&&◌, ℕ, zero, suc, Bool, true, false, cond, List, [], ◌∷◌, ◌++◌, ◌+◌, get_or, length, take, inl, inr, refl, ap, sym, subst, true≢false}
use Rattle.std.specs.List.{All, Contains, list_any}
use Rattle.std.specs.Prelude.{◌⊎◌}
use Rattle.std.proofs.lemmas.Bool.{and_parts, or_cases}
use Rattle.std.proofs.lemmas.List.Elements.{All-more, Contains-get_or}
use Rattle.std.proofs.lemmas.List.Folds.{Any-from_list_any, list_any-append, list_any_at}
use Rattle.def_diagnostics.specs.OpenModules.{AllOpen, AreOpen, IsClosedAt, IsOpen, Keeps, is_open_within, with_edge, with_module}
use Rattle.def_diagnostics.specs.declared.open_modules.GlobEdge.{GlobEdge}
use Rattle.dm_base.specs.IdLaws.{same_module-refl, same_module-true}
use Rattle.dm_base.specs.Tree.{is_among, same_module}
use Rattle.dm_base.specs.declared.ids.ModuleId.{ModuleId}

-- which modules stand among some after one is put there
pub among_inserted : (ms : List ModuleId) (x m : ModuleId) → is_among m (with_module ms x) ≡ true → (is_among m ms ≡ true) ⊎ (m ≡ x)
among_inserted ms x m h = by (is_among x ms) h
  where
    last : (a b : Bool) → same_module m x ≡ b → (a || (b || false)) ≡ true → (a ≡ true) ⊎ (m ≡ x)
    last true b e h = inl refl
    last false true e h = inr (same_module-true m x e)
    last false false e h = absurd (true≢false (sym h))

    by : (a : Bool) → is_among m (cond a ms (ms ++ x ∷ [])) ≡ true → (is_among m ms ≡ true) ⊎ (m ≡ x)
    by true h = inl h
    by false h = last (is_among m ms) (same_module m x) refl (sym (list_any-append (same_module m) ms (x ∷ [])) ∙ h)

pub kept_inserted : (ms : List ModuleId) (x m : ModuleId) → is_among m ms ≡ true → is_among m (with_module ms x) ≡ true
kept_inserted ms x m h = by (is_among x ms)
  where
    by : (a : Bool) → is_among m (cond a ms (ms ++ x ∷ [])) ≡ true
    by true = h
    by false = list_any-append (same_module m) ms (x ∷ []) ∙ ap (λ b. b || (same_module m x || false)) h

-- a pass keeps what is there
pub keeps_edge : (ms : List ModuleId) (e : GlobEdge) → Keeps ms (with_edge ms e)
keeps_edge ms e m h = by (is_among e.into ms) (is_among e.from ms)
  where
    by : (a b : Bool) → is_among m (cond a ms (cond b (with_module ms e.into) ms)) ≡ true
    by true b = h
    by false true = kept_inserted ms e.into m h
    by false false = h

or_true : (b : Bool) → (b || true) ≡ true
or_true true = refl
or_true false = refl

-- a module with a glob of an open one is open
pub open_through : (calls : List ModuleId) (edges : List GlobEdge) (e : GlobEdge) → Contains edges e → IsOpen calls edges e.from → IsOpen calls edges e.into
open_through calls edges e has is =
    let test = λ (x : GlobEdge). same_module e.into x.into && is_open_within calls edges is.0 x.from in
    let here : test e ≡ true = λ i. same_module-refl e.into i && is.1 i in (
      suc is.0,
      ap (λ b. is_among e.into calls || b) (list_any_at test edges has.0 e has.1 (ap test has.2 ∙ here)) ∙ or_true (is_among e.into calls),
    )

pub sound_edge : (calls : List ModuleId) (edges : List GlobEdge) (ms : List ModuleId) (e : GlobEdge) → Contains edges e
    → AllOpen calls edges ms → AllOpen calls edges (with_edge ms e)
sound_edge calls edges ms e has all m h = by (is_among e.into ms) (is_among e.from ms) refl h
  where
    by : (a b : Bool) → is_among e.from ms ≡ b → is_among m (cond a ms (cond b (with_module ms e.into) ms)) ≡ true → IsOpen calls edges m
    by true b is h = all m h
    by false true is h = elim (among_inserted ms e.into m h) [
      | inl old ↦ all m old
      | inr same ↦ subst (IsOpen calls edges) (sym same) (open_through calls edges e has (all e.from is))
    ]
    by false false is h = all m h

-- where no glob adds a module, all open modules are there
pub complete : (calls : List ModuleId) (edges : List GlobEdge) (ms : List ModuleId) → Keeps calls ms → All (IsClosedAt ms) edges
    → (n : ℕ) (m : ModuleId) → is_open_within calls edges n m ≡ true → is_among m ms ≡ true
complete calls edges ms keeps closed zero m h = keeps m h
complete calls edges ms keeps closed (suc n) m h = by (or_cases (is_among m calls) (list_any test edges) h) (complete calls edges ms keeps closed n)
  where
    test : GlobEdge → Bool
    test e = same_module m e.into && is_open_within calls edges n e.from

    by : (is_among m calls ≡ true) ⊎ (list_any test edges ≡ true) → ((k : ModuleId) → is_open_within calls edges n k ≡ true → is_among k ms ≡ true)
        → is_among m ms ≡ true
    by (inl own) more = keeps m own
    by (inr some) more =
        let any = Any-from_list_any test edges some in
        let parts = and_parts (same_module m any.1.into) (is_open_within calls edges n any.1.from) any.4 in
        let into = subst (IsClosedAt ms) any.3 (closed any.0 any.1 any.2) (more any.1.from parts.1) in
        subst (λ k. is_among k ms ≡ true) (sym (same_module-true m any.1.into parts.0)) into

pub are_open : (calls : List ModuleId) (edges : List GlobEdge) (ms : List ModuleId) → Keeps calls ms → AllOpen calls edges ms
    → All (IsClosedAt ms) edges → AreOpen calls edges ms
are_open calls edges ms keeps sound closed m = (sound m, λ is. complete calls edges ms keeps closed is.0 m is.1)

pub open_themselves : (calls : List ModuleId) (edges : List GlobEdge) → AllOpen calls edges calls
open_themselves calls edges m h = (0, h)

-- the same of what a step of a pass leaves, by its number
pub then_kept : (old mid new : List ModuleId) (edges : List GlobEdge) (i : ℕ) (d : GlobEdge) → new ≡ with_edge mid (get_or edges i d) → Keeps old mid → Keeps old new
then_kept old mid new edges i d is keeps m h = subst (λ ms. is_among m ms ≡ true) (sym is) (keeps_edge mid (get_or edges i d) m (keeps m h))

pub then_sound : (calls : List ModuleId) (edges : List GlobEdge) (mid new : List ModuleId) (i : ℕ) (d : GlobEdge) → i < length edges
    → new ≡ with_edge mid (get_or edges i d) → AllOpen calls edges mid → AllOpen calls edges new
then_sound calls edges mid new i d lt is all m h =
    sound_edge calls edges mid (get_or edges i d) (Contains-get_or edges i d lt) all m (subst (λ ms. is_among m ms ≡ true) is h)

pub then_closed : (old mid : List ModuleId) (edges : List GlobEdge) (i : ℕ) (d : GlobEdge) → i < length edges → mid ≡ old
    → All (IsClosedAt old) (take i edges) → IsClosedAt mid (get_or edges i d) → All (IsClosedAt old) (take (i + 1) edges)
then_closed old mid edges i d lt same before here =
    All-more (IsClosedAt old) edges i d lt before (subst (λ ms. IsClosedAt ms (get_or edges i d)) same here)

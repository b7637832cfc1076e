-- Passes over ways: how they begin, go on and end.
use native.Mathlib.Omega.{arith}
use Rattle.std.proofs.Common.{◌≡◌, ◌∙◌, ◌<◌, ap, refl, subst, sym, false, true, true≢false, inl, inr, length, nat_eq, suc, zero, ℕ, Bool, None, List, [], ◌∷◌, ◌++◌, get_or}
use Rattle.std.proofs.lemmas.Bool.{eq-eqb}
use Rattle.std.specs.List.{All, Contains}
use Rattle.std.specs.Prelude.{is_some}
use Rattle.dm_base.specs.declared.ids.ModuleId.{ModuleId}
use Rattle.dm_base.specs.declared.per_ns.Namespace.{Namespace}
use Rattle.dm_base.specs.Names.{Name}
use Rattle.dm_imports.specs.declared.joined.Joined.{Joined}
use Rattle.dm_imports.specs.Grounded.{IsGrounded, Offers, SlotSet, known_offers}
use Rattle.dm_imports.specs.Grounding.{AreCovered, AreSafeOffers, IsOpen, IsSafe, IsWay, IsWithin, Way, no_set, offers_in, slots_of, way_of}
use Rattle.dm_imports.specs.Marking.{AreUngrounded, HasUngrounded, IsUngroundedWay}
use Rattle.dm_imports.specs.OrderDependent.{IsUngrounded}
use Rattle.dm_imports.specs.Paths.{DefMaps}
use Rattle.dm_imports.specs.Slots.{Slots, no_slots, slot_at}
use Rattle.dm_imports.proofs.SlotLemmas.{nothing-at}
use Rattle.dm_imports.proofs.StepLemmas.{offers-more}
use Rattle.dm_imports.proofs.WayLemmas.{stuck-closed}
use Rattle.std.proofs.lemmas.List.Elements.{All-contains, Contains-append_left, Contains-get_or, Contains-push}

-- ---- Before the first pass

pub none-safe : (d : DefMaps) (k : Slots Bool) → k ≡ no_slots → IsSafe d (slots_of k)
none-safe d k is c closed m n s h =
    let none = ap is_some (ap (λ (t : Slots Bool). slot_at t m n s) is ∙ nothing-at m n s) in
    absurd (true≢false (sym h ∙ none))

pub none-covered : (d : DefMaps) (k : SlotSet) (ws : List Way) → AreCovered d no_set ws → AreCovered d k ws
none-covered d k ws all w is some = elim (all w is some) [
  | inl h ↦ absurd (true≢false (sym h))
  | inr h ↦ inr h
]

-- ---- A pass

module _ (d : DefMaps) (k : SlotSet) (b : Slots Joined) (has : (m : ModuleId) (n : Name) (s : Namespace) → slot_at b m n s ≡ known_offers d k m n s) where
  -- what is offered by known slots is offered by those of each closed set
  pub safe-offers : IsSafe d k → AreSafeOffers d (offers_in b)
  safe-offers safe c closed m n s = subst (λ o. IsWithin o (known_offers d c m n s)) (sym (has m n s)) (offers-more d k c (safe c closed) m n s)

  pub stuck-by : (ws : List Way) → All (IsOpen d k (offers_in b)) ws → All (IsOpen d k (known_offers d k)) ws
  stuck-by ws = subst (λ (o : Offers). All (IsOpen d k o) ws) (λ i m n s. has m n s i)

-- ---- After the last pass

pub some-left : (n : ℕ) → nat_eq n 0 ≡ false → 0 < n
some-left zero e = absurd (true≢false (sym (eq-eqb 0 0 refl) ∙ e))
some-left (suc n) e = omega arith

-- what is known is closed then, so a way that is open is of an ungrounded slot
pub open-ungrounded : (d : DefMaps) (k : SlotSet) (ws : List Way) → AreCovered d k ws → All (IsOpen d k (known_offers d k)) ws → All (IsWay d) ws → AreUngrounded d ws
open-ungrounded d k ws covered stuck ways i v lt =
    let w = get_or ws i v in
    let has = Contains-get_or ws i v lt in
    let stays = All-contains (IsOpen d k (known_offers d k)) ws w stuck has in
    let is = All-contains (IsWay d) ws w ways has in
    (is.home, record { means = ap is_some stays.there; known = k; closed = stuck-closed d k ws covered stuck; lacks = stays.unknown })

-- each closed set has what is known, so an ungrounded slot is not, and has a way that is open
pub covered-ungrounded : (d : DefMaps) (k : SlotSet) (ws : List Way) → AreCovered d k ws → IsSafe d k → HasUngrounded d ws
covered-ungrounded d k ws covered safe m is n s not =
    elim (covered (way_of m n None s) (record { home = is; import = λ i e. absurd (true≢false (sym (ap is_some e))) }) not.means) [
      | inl h ↦ absurd (true≢false (sym (safe not.known not.closed m n s h) ∙ not.lacks))
      | inr h ↦ h
    ]

pub no-ways : (ws : List Way) → length ws ≡ 0 → ws ≡ []
no-ways [] e = refl
no-ways (w ∷ ws) e = absurd (omega arith)

pub none-ungrounded : (d : DefMaps) (ws : List Way) → length ws ≡ 0 → AreUngrounded d ws
none-ungrounded d ws none i v lt = absurd (omega (arith, lt, none))

-- ---- Whether any way is open

a-way : (ws : List Way) → 0 < length ws → (w : Way) × Contains ws w
a-way [] lt = absurd (omega arith)
a-way (w ∷ ws) lt = (w, (zero, lt, refl))

pub all-grounded : (d : DefMaps) (ws : List Way) → HasUngrounded d ws → length ws ≡ 0 → IsGrounded d
all-grounded d ws all none k closed m is n s some = by (k m n s) refl
  where
    nothing : {w : Way} → Contains [] w → ⊥
    nothing h = let lt = h.1 in omega arith

    by : (b : Bool) → k m n s ≡ b → k m n s ≡ true
    by true e = e
    by false e =
        let not : IsUngrounded d m n s = record { means = some; known = k; closed = closed; lacks = e } in
        absurd (nothing (subst (λ (l : List Way). Contains l (way_of m n None s)) (no-ways ws none) (all m is n s not)))

pub some-ungrounded : (d : DefMaps) (ws : List Way) → AreUngrounded d ws → 0 < length ws → IsGrounded d → ⊥
some-ungrounded d ws each lt grounded =
    let w = a-way ws lt in
    let p = All-contains (IsUngroundedWay d) ws w.0 each w.1 in
    let not = p.1 in
    absurd (true≢false (sym (grounded not.known not.closed w.0.home p.0 w.0.name w.0.namespace not.means) ∙ not.lacks))

-- ---- One way of a pass

-- what holds of ways holds of those that are left of them
pub kept-ways : (P : Way → Type 0) (ws left : List Way) → ((w : Way) → Contains left w → Contains ws w) → All P ws → All P left
kept-ways P ws left among all k v lt = All-contains P ws (get_or left k v) all (among (get_or left k v) (Contains-get_or left k v lt))

-- what holds of ways holds of the last, and of those before it
pub popped-ways : (P : Way → Type 0) (ws init : List Way) (w : Way) → ws ≡ init ++ w ∷ [] → All P ws → All P init × P w
popped-ways P ws init w whole all =
    let each = subst (All P) whole all in (
      kept-ways P (init ++ w ∷ []) init (λ v has. Contains-append_left init (w ∷ []) v has) each,
      All-contains P (init ++ w ∷ []) w each (Contains-push init w),
    )

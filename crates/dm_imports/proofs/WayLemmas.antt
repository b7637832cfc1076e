-- Ways in which slots are derived, and what a table of known slots is when none of them goes on.
use native.Mathlib.Omega.{arith}
use Rattle.std.proofs.Common.{◌≡◌, ◌∙◌, ◌⊎◌, ap, cond, refl, subst, sym, true, false, true≢false, inl, inr, zero, Bool, Option, None, Some, List, [], ◌∷◌, ◌++◌, ◌&&◌, ◌||◌}
use Rattle.std.specs.Prelude.{is_some}
use Rattle.std.proofs.lemmas.Bool.{and_parts, or_cases, or_left, or_right}
use Rattle.std.proofs.lemmas.List.Elements.{All-contains, Contains-append_cases, Contains-append_left, Contains-append_right, Contains-push_cases}
use Rattle.std.proofs.lemmas.List.Folds.{list_any-from_Any}
use Rattle.std.specs.Cmp.Lexicographic.{nat_list_eq_equiv}
use Rattle.std.specs.List.{All, Contains, list_any}
use Rattle.std.specs.Option.{ForSome}
use Rattle.dm_base.specs.declared.ids.ModuleId.{ModuleId}
use Rattle.dm_base.specs.declared.per_ns.Namespace.{Namespace}
use Rattle.dm_base.specs.declared.per_ns.Namespace.TheVariants.{Types, Values, Macros}
use Rattle.dm_base.specs.IdLaws.{same_module-refl, same_module-true}
use Rattle.dm_base.specs.Names.{Name, same_name}
use Rattle.dm_base.specs.Tree.{same_module}
use Rattle.dm_imports.specs.declared.meaning.Meaning.{Meaning}
use Rattle.dm_imports.specs.declared.named_import.NamedImport.{NamedImport}
use Rattle.dm_imports.specs.Grounded.{IsClosed, Offers, SlotSet, is_glob_step, is_import_step, is_step, known_offers, leads_by}
use Rattle.dm_imports.specs.Grounding.{AreCovered, AreSafeOffers, IsImportOf, IsMore, IsOpen, IsSafe, IsWay, Way, has_slot, is_way, means, slots_of}
use Rattle.dm_imports.specs.Meanings.{is_declared}
use Rattle.dm_imports.specs.Paths.{DefMaps, is_by}
use Rattle.dm_imports.specs.Rules.{brings}
use Rattle.dm_imports.specs.Slots.{Slots, same_namespace, same_place, same_slot, slot_at}
use Rattle.dm_imports.proofs.ListLemmas.{some-of}
use Rattle.dm_imports.proofs.SlotLemmas.{name-same, namespace-same}
use Rattle.dm_imports.proofs.StepLemmas.{step-more}

-- ---- Slots

pub set-same : (k : SlotSet) (m : ModuleId) (n : Name) (s : Namespace) (l : ModuleId) (x : Name) (t : Namespace) → same_slot m n s l x t ≡ true → k m n s ≡ k l x t
set-same k m n s l x t e =
    let p = and_parts _ _ e in
    let q = and_parts _ _ p.1 in
    λ i. k (same_module-true m l q.0 i) (name-same n x q.1 i) (namespace-same s t p.0 i)

namespace-refl : (s : Namespace) → same_namespace s s ≡ true
namespace-refl Types = refl
namespace-refl Values = refl
namespace-refl Macros = refl

slot-refl : (m : ModuleId) (n : Name) (s : Namespace) → same_slot m n s m n s ≡ true
slot-refl m n s = both (same_namespace s s) (same_module m m) (same_name n n) (namespace-refl s) (same_module-refl m) (nat_list_eq_equiv.refl n)
  where
    both : (a b c : Bool) → a ≡ true → b ≡ true → c ≡ true → (a && (b && c)) ≡ true
    both true true true e f g = refl
    both true true false e f g = g
    both true false c e f g = f
    both false b c e f g = e

-- a table to which a slot was given
abbrev pub IsGiven : Slots Bool → Slots Bool → Way → Type 0
IsGiven old new w =
    (l : ModuleId) (x : Name) (t : Namespace) → slot_at new l x t ≡ cond (same_slot w.home w.name w.namespace l x t) (Some true) (slot_at old l x t)

module _ (old new : Slots Bool) (w : Way) (given : IsGiven old new w) where
  pub given-more : IsMore (slots_of old) (slots_of new)
  given-more l x t h = ap is_some (given l x t) ∙ by (same_slot w.home w.name w.namespace l x t)
    where
      by : (b : Bool) → is_some (cond b (Some true) (slot_at old l x t)) ≡ true
      by true = refl
      by false = h

  pub given-has : has_slot (slots_of new) w ≡ true
  given-has = ap is_some (given w.home w.name w.namespace ∙ ap (λ b. cond b (Some true) (slot_at old w.home w.name w.namespace)) (slot-refl w.home w.name w.namespace))

  pub given-cases : (l : ModuleId) (x : Name) (t : Namespace) → slots_of new l x t ≡ true → (slots_of old l x t ≡ true) ⊎ (same_slot w.home w.name w.namespace l x t ≡ true)
  given-cases l x t h = by (same_slot w.home w.name w.namespace l x t) refl (sym (ap is_some (given l x t)) ∙ h)
    where
      by : (b : Bool) → same_slot w.home w.name w.namespace l x t ≡ b → is_some (cond b (Some true) (slot_at old l x t)) ≡ true → (slots_of old l x t ≡ true) ⊎ (same_slot w.home w.name w.namespace l x t ≡ true)
      by true e i = inr e
      by false e i = inl i

-- ---- A way is a step

way-step : (d : DefMaps) (k : SlotSet) (o : Offers) (w : Way) (x : Meaning) → IsWay d w → is_way d k o w x ≡ true → is_step d k o w.home w.name w.namespace x ≡ true
way-step d k o w x is = by w.import is.import
  where
    steps : Bool
    steps = list_any (is_import_step d k o w.home w.name w.namespace x) d.imports

    by : (i : Option NamedImport) → ForSome i (IsImportOf d w) → is_way d k o (record w { import = i }) x ≡ true → is_step d k o w.home w.name w.namespace x ≡ true
    by None h e = or_left (is_declared x || is_glob_step d o w.home w.name w.namespace x) steps e
    by (Some i) h e =
        let has = (h i refl).listed in
        let one = list_any-from_Any (is_import_step d k o w.home w.name w.namespace x) d.imports (has.0, i, has.1, has.2, e) in
        or_right (is_declared x || is_glob_step d o w.home w.name w.namespace x) steps one

-- a table of known slots to which one was given that a way derives has no more than each closed set
pub given-safe : (d : DefMaps) (old new : Slots Bool) (o : Offers) (w : Way) (x : Meaning) → IsGiven old new w → IsWay d w → means d w ≡ Some x → is_way d (slots_of old) o w x ≡ true
    → AreSafeOffers d o → IsSafe d (slots_of old) → IsSafe d (slots_of new)
given-safe d old new o w x given is found step offers safe c closed m n s h = elim (given-cases old new w given m n s h) [
  | inl e ↦ safe c closed m n s e
  | inr e ↦
      let derived = step-more d (slots_of old) c (safe c closed) o (known_offers d c) (offers c closed) w.home w.name w.namespace x (way-step d (slots_of old) o w x is step) in
      sym (set-same c w.home w.name w.namespace m n s e) ∙ closed w.home is.home w.name w.namespace x found derived
]

-- so has one to which a slot was given that its module declares
pub declared-safe : (d : DefMaps) (old new : Slots Bool) (w : Way) (x : Meaning) → IsGiven old new w → IsWay d w → means d w ≡ Some x → is_declared x ≡ true
    → IsSafe d (slots_of old) → IsSafe d (slots_of new)
declared-safe d old new w x given is found declared safe c closed m n s h = elim (given-cases old new w given m n s h) [
  | inl e ↦ safe c closed m n s e
  | inr e ↦
      let globs = is_glob_step d (known_offers d c) w.home w.name w.namespace x in
      let imports = list_any (is_import_step d c (known_offers d c) w.home w.name w.namespace x) d.imports in
      let step : is_step d c (known_offers d c) w.home w.name w.namespace x ≡ true = or_left (is_declared x || globs) imports (or_left (is_declared x) globs declared) in
      sym (set-same c w.home w.name w.namespace m n s e) ∙ closed w.home is.home w.name w.namespace x found step
]

-- ---- Covered ways

module _ (d : DefMaps) (k l : SlotSet) (init left : List Way) (w : Way) where
  pub covered-done : IsMore k l → (is_some (means d w) ≡ true → has_slot l w ≡ true) → AreCovered d k ((init ++ w ∷ []) ++ left) → AreCovered d l (init ++ left)
  covered-done more done all v is some = elim (all v is some) [
    | inl h ↦ inl (more v.home v.name v.namespace h)
    | inr h ↦ elim (Contains-append_cases (init ++ w ∷ []) left v h) [
      | inl a ↦ elim (Contains-push_cases init w v a) [
        | inl b ↦ inr (Contains-append_left init left v b)
        | inr b ↦ inl (subst (λ (u : Way). has_slot l u ≡ true) b (done (subst (λ (u : Way). is_some (means d u) ≡ true) (sym b) some)))
      ]
      | inr a ↦ inr (Contains-append_right init left v a)
    ]
  ]

  pub covered-open : AreCovered d k ((init ++ w ∷ []) ++ left) → AreCovered d k (init ++ (left ++ w ∷ []))
  covered-open all v is some = elim (all v is some) [
    | inl h ↦ inl h
    | inr h ↦ elim (Contains-append_cases (init ++ w ∷ []) left v h) [
      | inl a ↦ elim (Contains-push_cases init w v a) [
        | inl b ↦ inr (Contains-append_left init (left ++ w ∷ []) v b)
        | inr b ↦ inr (Contains-append_right init (left ++ w ∷ []) v (Contains-append_right left (w ∷ []) v (zero, omega arith, b)))
      ]
      | inr a ↦ inr (Contains-append_right init (left ++ w ∷ []) v (Contains-append_left left (w ∷ []) v a))
    ]
  ]

-- ---- Where no way goes on

module _ (d : DefMaps) (k : SlotSet) (ws : List Way) (covered : AreCovered d k ws) (stuck : All (IsOpen d k (known_offers d k)) ws) where
  -- a way that derives its slot derives a known one
  known-slot : (w : Way) (x : Meaning) → IsWay d w → means d w ≡ Some x → is_way d k (known_offers d k) w x ≡ true → has_slot k w ≡ true
  known-slot w x is found step = elim (covered w is (ap is_some found)) [
    | inl h ↦ h
    | inr h ↦
        let this = All-contains (IsOpen d k (known_offers d k)) ws w stuck h in
        let there = this.there in
        let same : this.meaning ≡ x = cc in
        absurd (true≢false (sym step ∙ ap (λ y. is_way d k (known_offers d k) w y) (sym same) ∙ this.fails))
  ]

  pub stuck-closed : IsClosed d k
  stuck-closed m is n s x there step = elim (or_cases (is_declared x || is_glob_step d (known_offers d k) m n s x) imports step) [
    | inl a ↦ known-slot (record { home = m; name = n; namespace = s; import = None }) x (record { home = is; import = λ i e. cc }) there a
    | inr b ↦ let i = some-of (is_import_step d k (known_offers d k) m n s x) d.imports b in by_import i.0 i.1 i.2
  ]
    where
      imports : Bool
      imports = list_any (is_import_step d k (known_offers d k) m n s x) d.imports

      by_import : (i : NamedImport) → Contains d.imports i → is_import_step d k (known_offers d k) m n s x i ≡ true → k m n s ≡ true
      by_import i has e =
          let w : Way = record { home = m; name = n; namespace = s; import = Some i } in
          let here = same_place i.home i.name m n in
          let its = is_by (Some i.import) x.source in
          let q = and_parts (here && its && brings i.kind s) (leads_by d k (known_offers d k) i s) e in
          let r = and_parts (here && its) (brings i.kind s) q.0 in
          let t = and_parts here its r.0 in
          let p = and_parts (same_module i.home m) (same_name i.name n) t.0 in
          let own : IsImportOf d w i = record { listed = has; home = same_module-true i.home m p.0; name = name-same i.name n p.1 } in
          let import : ForSome (Some i) (IsImportOf d w) = λ j f. let same : i ≡ j = cc in subst (IsImportOf d w) same own in
          known-slot w x (record { home = is; import = import }) there e

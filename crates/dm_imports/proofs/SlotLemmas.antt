-- Tables in which one slot, or the three of a name, were written.
use Rattle.std.proofs.Common.{◌≡◌, ◌∙◌, ap, cond, refl, sym, true, false, true≢false, Bool, Option, None, Some}
use Rattle.std.proofs.lemmas.Bool.{and_parts}
use Rattle.std.proofs.lemmas.Slice.Eq.{bytes_eq-Decides}
use Rattle.dm_base.specs.declared.ids.ModuleId.{ModuleId}
use Rattle.dm_base.specs.declared.per_ns.Namespace.{Namespace}
use Rattle.dm_base.specs.declared.per_ns.Namespace.TheVariants.{Types, Values, Macros}
use Rattle.dm_base.specs.IdLaws.{same_module-true}
use Rattle.dm_base.specs.Names.{Name, same_name}
use Rattle.dm_imports.specs.Slots.{Slots, no_slots, same_namespace, same_place, same_slot, slot_at}

pub namespace-same : (s t : Namespace) → same_namespace s t ≡ true → s ≡ t
namespace-same Types Types e = refl
namespace-same Types Values e = absurd (true≢false (sym e))
namespace-same Types Macros e = absurd (true≢false (sym e))
namespace-same Values Types e = absurd (true≢false (sym e))
namespace-same Values Values e = refl
namespace-same Values Macros e = absurd (true≢false (sym e))
namespace-same Macros Types e = absurd (true≢false (sym e))
namespace-same Macros Values e = absurd (true≢false (sym e))
namespace-same Macros Macros e = refl

pub name-same : (n x : Name) → same_name n x ≡ true → n ≡ x
name-same n x e = (bytes_eq-Decides n x).0 e

module _ {T : Type 0} where
  slot-same : (b : Slots T) (m : ModuleId) (n : Name) (s : Namespace) (k : ModuleId) (x : Name) (t : Namespace) → same_slot m n s k x t ≡ true → slot_at b m n s ≡ slot_at b k x t
  slot-same b m n s k x t e =
      let p = and_parts _ _ e in
      let q = and_parts _ _ p.1 in
      λ i. slot_at b (same_module-true m k q.0 i) (name-same n x q.1 i) (namespace-same s t p.0 i)

  -- what a slot has is made another by f
  abbrev pub Written : Slots T → Slots T → ModuleId → Name → Namespace → (Option T → Option T) → Type 0
  Written old new m n s f = (k : ModuleId) (x : Name) (t : Namespace) → slot_at new k x t ≡ cond (same_slot m n s k x t) (f (slot_at old k x t)) (slot_at old k x t)

  pub slot-written : (old new : Slots T) (m : ModuleId) (n : Name) (s : Namespace) (v : T)
      → ((k : ModuleId) (x : Name) (t : Namespace) → slot_at new k x t ≡ cond (same_slot m n s k x t) (Some v) (slot_at old k x t))
      → (f : Option T → Option T) → f (slot_at old m n s) ≡ Some v → Written old new m n s f
  slot-written old new m n s v h f e k x t = h k x t ∙ by (same_slot m n s k x t) refl
    where
      by : (c : Bool) → same_slot m n s k x t ≡ c → cond c (Some v) (slot_at old k x t) ≡ cond c (f (slot_at old k x t)) (slot_at old k x t)
      by true is = sym e ∙ ap f (slot-same old m n s k x t is)
      by false is = refl

  pub slot-kept : (old : Slots T) (m : ModuleId) (n : Name) (s : Namespace) (f : Option T → Option T) → f (slot_at old m n s) ≡ slot_at old m n s → Written old old m n s f
  slot-kept old m n s f e k x t = by (same_slot m n s k x t) refl
    where
      by : (c : Bool) → same_slot m n s k x t ≡ c → slot_at old k x t ≡ cond c (f (slot_at old k x t)) (slot_at old k x t)
      by true is = let same = slot-same old m n s k x t is in sym same ∙ sym e ∙ ap f same
      by false is = refl

  pub three-slots : (a b c d : Slots T) (m : ModuleId) (n : Name) (f : Namespace → Option T → Option T)
      → Written a b m n Types (f Types) → Written b c m n Values (f Values) → Written c d m n Macros (f Macros)
      → (k : ModuleId) (x : Name) (t : Namespace) → slot_at d k x t ≡ cond (same_place m n k x) (f t (slot_at a k x t)) (slot_at a k x t)
  three-slots a b c d m n f g h j k x Types = j k x Types ∙ h k x Types ∙ g k x Types
  three-slots a b c d m n f g h j k x Values = j k x Values ∙ h k x Values ∙ ap (λ y. cond (same_place m n k x) (f Values y) y) (g k x Values)
  three-slots a b c d m n f g h j k x Macros = j k x Macros ∙ ap (λ y. cond (same_place m n k x) (f Macros y) y) (h k x Macros ∙ g k x Macros)

pub nothing-at : {T : Type 0} (k : ModuleId) (x : Name) (t : Namespace) → slot_at (no_slots {T = T}) k x t ≡ None
nothing-at k x Types = refl
nothing-at k x Values = refl
nothing-at k x Macros = refl

-- A callback called with the names of a definition.
use Rattle.std.proofs.Common.{◌≡◌, Bool, true, false, not, cond, List, ◌∷◌, Option, Some, None, Bor, refl, subst, sym}
use Rattle.std.specs.Option.{is_none, is_some}
use Rattle.dm_base.specs.declared.per_ns.Item.{Item}
use Rattle.dm_base.specs.declared.visibility.Visibility.{Visibility}
use Rattle.dm_base.specs.Names.{Name}
use Rattle.dm_scope.specs.BindingLookups.{shown_name, names_in, MayAskNames, AsksNames}

none-is : {A : Type 0} (o : Option A) (b : Bool) → is_some o ≡ not b → b ≡ is_none o
none-is None true h = refl
none-is None false h = cc
none-is (Some x) true h = cc
none-is (Some x) false h = refl

module _ {F T D I : Type 0} (step : F → Bor Name → Visibility → Bool → Option T → F → Type 0) (same : D → D → Bool) (d : D) where
  -- it answers about the first entry, which is of the definition
  pub AsksNames-answered : (all es : List (Name × Item D I)) (e : Name × Item D I) (f g : F) (n : Bor Name) (b : Bool) (y : T)
      → all ≡ e ∷ es → same e.1.def d ≡ true → n.now ≡ e.0 → is_some e.1.import ≡ not b → step f n e.1.vis b (Some y) g → AsksNames step (names_in same d all) f (Some y) g
  AsksNames-answered all es e f g n b y first h is none s =
      subst (λ l. AsksNames step (names_in same d l) f (Some y) g) (sym first) (by (same e.1.def d) h)
    where
      by : (c : Bool) → c ≡ true → AsksNames step (cond c (shown_name e ∷ names_in same d es) (names_in same d es)) f (Some y) g
      by true k = (Some y, g, (n, is, subst (λ v. step f n e.1.vis v (Some y) g) (none-is e.1.import b none) s), (refl, refl))
      by false k = cc

-- what it answers about some names, it answers about equal ones
pub AsksNames-same : {F T : Type 0} (step : F → Bor Name → Visibility → Bool → Option T → F → Type 0) (xs ys : List (Name × Visibility × Bool)) (f : F) (r : Option T)
    → xs ≡ ys → (last : F) × AsksNames step xs f r last → (last : F) × AsksNames step ys f r last
AsksNames-same {F} step xs ys f r same asked = subst (λ l. (last : F) × AsksNames step l f r last) same asked

-- and may be called with them
pub MayAskNames-same : {F T : Type 0} (may : F → Bor Name → Visibility → Bool → Type 0) (step : F → Bor Name → Visibility → Bool → Option T → F → Type 0) (xs ys : List (Name × Visibility × Bool)) (f : F)
    → xs ≡ ys → MayAskNames may step xs f → MayAskNames may step ys f
MayAskNames-same may step xs ys f same asked = subst (λ l. MayAskNames may step l f) same asked

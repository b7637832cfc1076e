-- Reverse look-up in a namespace: the names of a definition, and calls of a callback on them.
use Rattle.std.specs.Prelude.{◌≡◌, ◌∷◌, [], Bool, List, Option, Some, None, if◌then◌else◌, is_none}
use Rattle.std.specs.Borrow.{Bor}
use Rattle.dm_base.specs.declared.per_ns.Item.{Item}
use Rattle.dm_base.specs.declared.visibility.Visibility.{Visibility}
use Rattle.dm_base.specs.Names.{Name}

-- a binding as what is said of its definition: the name, its visibility, and whether no import brought it
abbrev pub shown_name : {D I : Type 0} → Name × Item D I → Name × Visibility × Bool
shown_name e = (e.0, e.1.vis, is_none e.1.import)

-- The names of a definition in a namespace, in order of first binding.
abbrev pub names_in : {D I : Type 0} → (D → D → Bool) → D → List (Name × Item D I) → List (Name × Visibility × Bool)
names_in same d [] = []
names_in same d (e ∷ es) = if same e.1.def d then shown_name e ∷ names_in same d es else names_in same d es

-- a name as it is shown, behind a reference
abbrev pub deref_named : Bor Name × Visibility × Bool → Name × Visibility × Bool
deref_named e = (e.0.now, e.1, e.2)

-- One call of a callback with a name: a is its answer, and g its state after it.
abbrev pub AsksName : {F T : Type 0} → (F → Bor Name → Visibility → Bool → Option T → F → Type 0) → F → Name × Visibility × Bool → Option T → F → Type 0
AsksName step f x a g = (n : Bor Name) × (n.now ≡ x.0) × step f n x.1 x.2 a g

-- A callback is called with names in order until it answers Some: r is that answer, or None where it never does.
abbrev pub AsksNames : {F T : Type 0} → (F → Bor Name → Visibility → Bool → Option T → F → Type 0) → List (Name × Visibility × Bool) → F → Option T → F → Type 0
AsksNames step [] f r g = (r ≡ None) × (g ≡ f)
AsksNames {F} {T} step (x ∷ xs) f r g = (a : Option T) × (h : F) × AsksName step f x a h × elim a [ None ↦ AsksNames step xs h r g | Some y ↦ (r ≡ Some y) × (g ≡ h) ]

-- A callback may be called with a name: its precondition holds.
abbrev pub MayAskName : {F : Type 0} → (F → Bor Name → Visibility → Bool → Type 0) → F → Name × Visibility × Bool → Type 0
MayAskName may f x = (n : Bor Name) → n.now ≡ x.0 → may f n x.1 x.2

-- A callback may be called with names in order until it answers Some: with the first, and with the others in each state
-- that it may be left in where it does not answer Some for the first.
abbrev pub MayAskNames : {F T : Type 0} → (F → Bor Name → Visibility → Bool → Type 0) → (F → Bor Name → Visibility → Bool → Option T → F → Type 0) → List (Name × Visibility × Bool) → F → Type 0
MayAskNames may step [] f = Unit {0}
MayAskNames {F} {T} may step (x ∷ xs) f = MayAskName may f x × ((g : F) → AsksName step f x None g → MayAskNames may step xs g)

-- one that may be called with any name, whatever its state, may be called with these
pub MayAskNames-any : {F T : Type 0} (may : F → Bor Name → Visibility → Bool → Type 0) (step : F → Bor Name → Visibility → Bool → Option T → F → Type 0) (xs : List (Name × Visibility × Bool)) (f : F)
    → ((g : F) (n : Bor Name) (v : Visibility) (b : Bool) → may g n v b) → MayAskNames may step xs f
MayAskNames-any may step [] f any = tt
MayAskNames-any may step (x ∷ xs) f any = (λ n is. any f n x.1 x.2, λ g asked. MayAskNames-any may step xs g any)

-- Lists, as loops go over them, and what is in them.
use Rattle.std.proofs.Common.{[], ◌≡◌, ◌∙◌, ◌+◌, ◌<◌, ◌≤◌, ◌||◌, ℕ, suc, List, ◌∷◌, add-one, ap, drop, drop-cons, get_or, length, refl, subst, sym, true, false, true≢false, Bool, Bor, Option, None, Some, IsSome, map}
use Rattle.std.specs.Cmp.Lexicographic.{nat_list_eq_equiv}
use Rattle.std.specs.List.{All, Contains, list_any}
use Rattle.std.proofs.lemmas.List.Elements.{All-contains, All-map}
use Rattle.std.proofs.lemmas.List.Folds.{Any-from_list_any}
use Rattle.std.proofs.lemmas.Map.Views.{Contains-keys_from_lookup, list_any-from_Contains}
use Rattle.std.proofs.lemmas.Bool.{ltb-false}
use Rattle.std.proofs.lemmas.Option.{slice_get_past}
use Rattle.std.specs.Option.{option_and_then, option_map_or}
use Rattle.dm_base.specs.declared.ids.ModuleId.{ModuleId}
use Rattle.dm_base.specs.Names.{Name, find_name, same_name}
use Rattle.dm_def_map.specs.Maps.{Module}
use Rattle.dm_maps.specs.Known.{knows}
use Rattle.dm_maps.specs.World.{World, placed_module, scope_of}
use Rattle.dm_maps.specs.declared.check.held.HeldId.TheVariants as held
use Rattle.dm_scope.specs.Scope.{no_scope}
use Rattle.dm_scope.specs.Sorted.{seen}
use Rattle.dm_imports.proofs.SlotLemmas.{name-same}

pub next-of : {X : Type 0} (xs : List X) (i : ℕ) (x : X) → i < length xs → x ≡ get_or xs i x → drop i xs ≡ x ∷ drop (i + 1) xs
next-of xs i x l is = drop-cons xs i x l ∙ ap (λ y. y ∷ drop (suc i) xs) (sym is) ∙ ap (λ n. x ∷ drop n xs) (sym (add-one i))

-- an element at which a test is true
pub some-of : {X : Type 0} (p : X → Bool) (xs : List X) → list_any p xs ≡ true → (x : X) × Contains xs x × (p x ≡ true)
some-of p xs h = let a = Any-from_list_any p xs h in (a.1, (a.0, a.2, a.3), a.4)

-- what a test finds nowhere is at no element
pub none-of : {X : Type 0} (p : X → Bool) (x : X) (xs : List X) → list_any p (x ∷ xs) ≡ false → (p x ≡ false) × (list_any p xs ≡ false)
none-of p x xs h = by (p x) refl h
  where
    by : (b : Bool) → p x ≡ b → (b || list_any p xs) ≡ false → (p x ≡ false) × (list_any p xs ≡ false)
    by true e i = absurd (true≢false i)
    by false e i = (e, i)

pub name-listed : (n : Name) (ns : List Name) → list_any (same_name n) ns ≡ true → Contains ns n
name-listed n ns h = let x = some-of (same_name n) ns h in subst (Contains ns) (sym (name-same n x.0 x.2)) x.1

pub name-absent : (n : Name) (ns : List Name) → list_any (same_name n) ns ≡ false → Contains ns n → ⊥
name-absent n ns h has = absurd (true≢false (sym (list_any-from_Contains nat_list_eq_equiv n ns has) ∙ h))

pub find-absent : {A : Type 0} (n : Name) (es : List (Name × A)) → (Contains (map (λ e. e.0) es) n → ⊥) → find_name n es ≡ None
find-absent {A} n es missing = by (find_name n es) refl
  where
    by : (o : Option A) → find_name n es ≡ o → find_name n es ≡ None
    by None e = e
    by (Some v) e = absurd (missing (Contains-keys_from_lookup name-same n es (subst IsSome (sym e) refl)))

-- what holds of all names of a list of references
pub seen-all : (P : Name → Type 0) (ns : List (Bor Name)) (n : Name) → All (λ (r : Bor Name). P r.now) ns → Contains (seen ns) n → P n
seen-all P ns n all has = All-contains P (seen ns) n (All-map P (λ (r : Bor Name). r.now) ns all) has

-- ---- A module that is not the world's

pub past-scope : (w : World) (m : ModuleId) → length w.places ≤ m.0 → scope_of w m ≡ no_scope
past-scope w m past = ap (λ o. option_map_or (λ (d : Module). d.scope) (option_and_then (placed_module w) o) no_scope) (slice_get_past w.places m.0 past)

pub unknown-scope : (w : World) (m : ModuleId) → knows w (held.Module m) ≡ false → scope_of w m ≡ no_scope
unknown-scope w m e = past-scope w m (ltb-false m.0 (length w.places) e)

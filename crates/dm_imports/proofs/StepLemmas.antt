-- What one step derives from known slots, it derives from more.
use Rattle.std.proofs.Common.{◌≡◌, ◌∙◌, ap, cond, refl, sym, true, false, not, true≢false, Bool, Option, None, Some, List, [], ◌∷◌, ◌&&◌, ◌||◌, inl, inr}
use Rattle.std.specs.Prelude.{is_none, is_some}
use Rattle.std.proofs.lemmas.Bool.{and_from, and_parts, or_cases, or_left, or_parts, or_right}
use Rattle.std.specs.List.{cons_option, filter_map, list_any}
use Rattle.std.specs.Option.{option_and_then, option_map}
use Rattle.dm_base.specs.contracts.value_eq.ModuleDefIdValueEq.TheImpl.Laws as def_value
use Rattle.dm_base.specs.declared.ids.ModuleId.{ModuleId}
use Rattle.dm_base.specs.declared.per_ns.Namespace.{Namespace}
use Rattle.dm_base.specs.declared.per_ns.Namespace.TheVariants.{Types}
use Rattle.dm_base.specs.Names.{Name}
use Rattle.dm_base.specs.PerNs.{keep}
use Rattle.dm_base.specs.Sameness.{same_def}
use Rattle.dm_base.specs.Tree.{same_module}
use Rattle.dm_maps.specs.World.{World}
use Rattle.dm_imports.specs.declared.container.Container.{Container}
use Rattle.dm_imports.specs.declared.glob_import.GlobImport.{GlobImport}
use Rattle.dm_imports.specs.declared.joined.Joined.{Joined}
use Rattle.dm_imports.specs.declared.meaning.Meaning.{Meaning}
use Rattle.dm_imports.specs.declared.named_import.NamedImport.{NamedImport}
use Rattle.dm_imports.specs.Grounded.{Offers, SlotSet, is_brought, is_clear, is_glob_step, is_import_step, is_step, known_offer, known_offers, knowing, knowing_asks, leads_by}
use Rattle.dm_imports.specs.Grounding.{AreWithin, IsMore, is_conflict}
use Rattle.dm_imports.specs.Meanings.{is_declared, joined}
use Rattle.dm_imports.specs.Paths.{DefMaps, is_by, is_by_glob, member, path_meaning}
use Rattle.dm_imports.specs.Rules.{all_offers, brings, conflicts, glob_asks, is_other, join_all, offer, offer_from, offer_to, offered}
use Rattle.dm_imports.specs.Slots.{same_place}
use Rattle.dm_imports.specs.Tables.{spoiled_if}
use Rattle.dm_imports.proofs.ClearLemmas.{Clearer, Same, clearer-refl, led-same, member-clearer, path-same}
use Rattle.dm_imports.proofs.JoinLemmas.{conflicts-self}

-- ---- Offers

module _ (d : DefMaps) (k l : SlotSet) (more : IsMore k l) where
  offered-same : (g : GlobImport) (o p : Option Meaning) → Same o p → Same (option_map (offered d g) o) (option_map (offered d g) p)
  offered-same g None p h i = absurd (true≢false (sym i))
  offered-same g (Some x) p h i = ap (option_map (offered d g)) (h i)

  offer-same : (n : Name) (s : Namespace) (g : GlobImport) → Same (offer (knowing d k) g n s) (offer (knowing d l) g n s)
  offer-same n s g =
      led-same (path_meaning (knowing d k) (glob_asks g) None g.path Types) (path_meaning (knowing d l) (glob_asks g) None g.path Types)
      (path-same d k l more g.into None (λ m n s. None) (λ m n s. None) (λ m n s. clearer-refl None) None g.path Types)
      (λ c. option_and_then (λ v. offer_from (knowing d k) g v n s) (keep (is_other g.into) c)) (λ c. option_and_then (λ v. offer_from (knowing d l) g v n s) (keep (is_other g.into) c)) refl from
    where
      to : (c : Container) (b : Bool) → Same (option_and_then (λ v. offer_from (knowing d k) g v n s) (cond b (Some c) None)) (option_and_then (λ v. offer_from (knowing d l) g v n s) (cond b (Some c) None))
      to c true = offered-same g (member (knowing d k) (glob_asks g) c n s) (member (knowing d l) (glob_asks g) c n s)
          (member-clearer d k l more g.into None (λ m n s. None) (λ m n s. None) (λ m n s. clearer-refl None) c n s).1
      to c false = λ i. refl

      from : (c : Option Container) → Same (option_and_then (λ v. offer_from (knowing d k) g v n s) (keep (is_other g.into) c)) (option_and_then (λ v. offer_from (knowing d l) g v n s) (keep (is_other g.into) c))
      from None = λ i. refl
      from (Some c) = to c (is_other g.into c)

  offer_to-same : (m : ModuleId) (n : Name) (s : Namespace) (g : GlobImport) → Same (offer_to (knowing d k) m n s g) (offer_to (knowing d l) m n s g)
  offer_to-same m n s g = by (same_module g.into m)
    where
      by : (b : Bool) → Same (cond b (offer (knowing d k) g n s) None) (cond b (offer (knowing d l) g n s) None)
      by true = offer-same n s g
      by false = λ i. refl

  pub known_offer-more : (m : ModuleId) (n : Name) (s : Namespace) (g : GlobImport) (x : Meaning) → known_offer d k m n s g ≡ Some x → known_offer d l m n s g ≡ Some x
  known_offer-more m n s g x h = by (is_clear (offer_to (knowing d k) m n s g)) refl h
    where
      by : (b : Bool) → is_clear (offer_to (knowing d k) m n s g) ≡ b → cond b (offer_to d m n s g) None ≡ Some x → known_offer d l m n s g ≡ Some x
      by true e i = ap (λ b. cond b (offer_to d m n s g) None) (ap is_clear (offer_to-same m n s g e) ∙ e) ∙ i
      by false e i = cc

-- what a test finds in what is given it finds where more is given
any-more : (p : Meaning → Bool) (f g : GlobImport → Option Meaning) → ((x : GlobImport) (y : Meaning) → f x ≡ Some y → g x ≡ Some y)
    → (gs : List GlobImport) → list_any p (filter_map f gs) ≡ true → list_any p (filter_map g gs) ≡ true
any-more p f g h [] e = e
any-more p f g h (x ∷ xs) e = by (f x) refl e (any-more p f g h xs)
  where
    behind : (o : Option Meaning) (ys : List Meaning) → list_any p ys ≡ true → list_any p (cons_option o ys) ≡ true
    behind None ys i = i
    behind (Some y) ys i = or_right (p y) (list_any p ys) i

    by : (o : Option Meaning) → f x ≡ o → list_any p (cons_option o (filter_map f xs)) ≡ true → (list_any p (filter_map f xs) ≡ true → list_any p (filter_map g xs) ≡ true)
        → list_any p (cons_option (g x) (filter_map g xs)) ≡ true
    by None is i rest = behind (g x) (filter_map g xs) (rest i)
    by (Some y) is i rest = ap (λ o. list_any p (cons_option o (filter_map g xs))) (h x y is) ∙ elim (or_cases (p y) (list_any p (filter_map f xs)) i) [
      | inl a ↦ or_left (p y) (list_any p (filter_map g xs)) a
      | inr a ↦ or_right (p y) (list_any p (filter_map g xs)) (rest a)
    ]

from-not : (b : Bool) → not b ≡ false → b ≡ true
from-not true e = refl
from-not false e = absurd (true≢false e)

module _ (w : World) (m : ModuleId) where
  pub joined-some : (xs : List Meaning) → is_some (join_all w m xs) ≡ list_any (λ x. true) xs
  joined-some [] = refl
  joined-some (x ∷ xs) = refl

  -- where offers are ambiguous together, one of them conflicts with any other
  conflict-with : (y : Meaning) (xs : List Meaning) → is_conflict (join_all w m xs) ≡ true → list_any (conflicts y) xs ≡ true
  conflict-with y [] h = h
  conflict-with y (x ∷ xs) h = by (conflicts y x) refl
    where
      same : x.is_ambiguous ≡ false → not (same_def y.def x.def) ≡ false → list_any (conflicts y) xs ≡ true
      same a e =
          let is = def_value.same-law y.def x.def (from-not (same_def y.def x.def) e) in
          ap (λ v. list_any (λ (z : Meaning). z.is_ambiguous || not (same_def v z.def)) xs) is ∙ sym (ap (λ b. b || list_any (conflicts x) xs) a) ∙ h

      by : (b : Bool) → conflicts y x ≡ b → (b || list_any (conflicts y) xs) ≡ true
      by true e = refl
      by false e = let p = or_parts x.is_ambiguous (not (same_def y.def x.def)) e in same p.0 p.1

  pub conflict-more : (xs ys : List Meaning) → ((p : Meaning → Bool) → list_any p xs ≡ true → list_any p ys ≡ true) → is_conflict (join_all w m xs) ≡ true → is_conflict (join_all w m ys) ≡ true
  conflict-more [] ys h e = absurd (true≢false (sym e))
  conflict-more (x ∷ xs) [] h e = h (λ z. true) refl
  conflict-more (x ∷ xs) (y ∷ ys) h e = ap (λ b. b || list_any (conflicts y) ys) (sym (conflicts-self y)) ∙ h (conflicts y) (conflict-with y (x ∷ xs) e)

pub offers-more : (d : DefMaps) (k l : SlotSet) → IsMore k l → AreWithin (known_offers d k) (known_offers d l)
offers-more d k l more m n s =
    let xs = filter_map (known_offer d k m n s) d.globs in
    let ys = filter_map (known_offer d l m n s) d.globs in
    let any : (p : Meaning → Bool) → list_any p xs ≡ true → list_any p ys ≡ true = λ p. any-more p (known_offer d k m n s) (known_offer d l m n s) (known_offer-more d k l more m n s) d.globs in
    record {
      there = λ h. joined-some d.world m ys ∙ any (λ x. true) (sym (joined-some d.world m xs) ∙ h);
      conflict = conflict-more d.world m xs ys any;
    }

-- ---- Steps

both-more : (a b c e : Bool) → (a ≡ true → c ≡ true) → (b ≡ true → e ≡ true) → (a && b) ≡ true → (c && e) ≡ true
both-more a b c e f g h = let p = and_parts a b h in and_from c e (f p.0) (g p.1)

either-more : (a b c e : Bool) → (a ≡ true → c ≡ true) → (b ≡ true → e ≡ true) → (a || b) ≡ true → (c || e) ≡ true
either-more a b c e f g h = elim (or_cases a b h) [
  | inl i ↦ or_left c e (f i)
  | inr i ↦ or_right c e (g i)
]

list-more : {X : Type 0} (p q : X → Bool) → ((x : X) → p x ≡ true → q x ≡ true) → (xs : List X) → list_any p xs ≡ true → list_any q xs ≡ true
list-more p q h [] e = e
list-more p q h (x ∷ xs) e = either-more (p x) (list_any p xs) (q x) (list_any q xs) (h x) (list-more p q h xs) e

module _ (d : DefMaps) (k l : SlotSet) (more : IsMore k l) (o p : Offers) (within : AreWithin o p) where
  below-clearer : (m : ModuleId) (n : Name) (s : Namespace) → Clearer (option_map (spoiled_if (is_none (o m n s))) (all_offers d d.globs m n s)) (option_map (spoiled_if (is_none (p m n s))) (all_offers d d.globs m n s))
  below-clearer m n s = by (all_offers d d.globs m n s) (o m n s) (p m n s) (within m n s).there
    where
      spoiled : (b : Bool) → not (b || true) ≡ false
      spoiled true = refl
      spoiled false = refl

      by : (j : Option Joined) (u v : Option Joined) → (is_some u ≡ true → is_some v ≡ true) → Clearer (option_map (spoiled_if (is_none u)) j) (option_map (spoiled_if (is_none v)) j)
      by None u v h = clearer-refl None
      by (Some j) None v h = (refl, λ i. absurd (true≢false (sym i ∙ spoiled (joined j).is_ambiguous)))
      by (Some j) (Some u) None h = absurd (true≢false (sym (h refl)))
      by (Some j) (Some u) (Some v) h = clearer-refl (Some (spoiled_if false j))

  leads-more : (i : NamedImport) (s : Namespace) → leads_by d k o i s ≡ true → leads_by d l p i s ≡ true
  leads-more i s h =
      ap is_clear (path-same d k l more i.home (Some i.import) (knowing_asks d o i).below (knowing_asks d p i).below below-clearer i.textual i.path s h) ∙ h

  import-more : (m : ModuleId) (n : Name) (s : Namespace) (x : Meaning) (i : NamedImport) → is_import_step d k o m n s x i ≡ true → is_import_step d l p m n s x i ≡ true
  import-more m n s x i =
      let its = same_place i.home i.name m n && is_by (Some i.import) x.source && brings i.kind s in
      both-more its (leads_by d k o i s) its (leads_by d l p i s) (λ e. e) (leads-more i s)

  glob-more : (m : ModuleId) (n : Name) (s : Namespace) (x : Meaning) → is_glob_step d o m n s x ≡ true → is_glob_step d p m n s x ≡ true
  glob-more m n s x = by x.is_ambiguous
    where
      by : (b : Bool) → cond b (is_by_glob x && is_conflict (o m n s)) (is_brought d m n s x && is_some (o m n s)) ≡ true → cond b (is_by_glob x && is_conflict (p m n s)) (is_brought d m n s x && is_some (p m n s)) ≡ true
      by true = both-more (is_by_glob x) (is_conflict (o m n s)) (is_by_glob x) (is_conflict (p m n s)) (λ e. e) (within m n s).conflict
      by false = both-more (is_brought d m n s x) (is_some (o m n s)) (is_brought d m n s x) (is_some (p m n s)) (λ e. e) (within m n s).there

  pub step-more : (m : ModuleId) (n : Name) (s : Namespace) (x : Meaning) → is_step d k o m n s x ≡ true → is_step d l p m n s x ≡ true
  step-more m n s x =
      let one = list_any (is_import_step d k o m n s x) d.imports in
      let two = list_any (is_import_step d l p m n s x) d.imports in
      either-more (is_declared x || is_glob_step d o m n s x) one (is_declared x || is_glob_step d p m n s x) two
      (either-more (is_declared x) (is_glob_step d o m n s x) (is_declared x) (is_glob_step d p m n s x) (λ e. e) (glob-more m n s x))
      (list-more (is_import_step d k o m n s x) (is_import_step d l p m n s x) (import-more m n s x) d.imports)

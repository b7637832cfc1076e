-- Imports as `_`: one that would write nothing goes on to write nothing, and one that wrote does not write again.
use Rattle.std.proofs.Common.{◌≡◌, ◌∙◌, ◌&&◌, ◌||◌, ◌++◌, ℕ, Bool, true, false, cond, not, List, [], ◌∷◌, Option, None, Some, IsTrue, ap, sym, refl, rules, nat_eq, true≢false}
use Rattle.std.specs.List.{list_all, list_any}
use Rattle.std.specs.Option.{option_and_then, option_eq, option_map_or}
use Rattle.std.proofs.lemmas.Bool.{cond-false, cond-true, not-false, or_left}
use Rattle.std.proofs.lemmas.List.Folds.{list_any-append}
use Rattle.dm_base.specs.declared.ids.MapId.{MapId}
use Rattle.dm_base.specs.declared.ids.ModuleId.{ModuleId}
use Rattle.dm_base.specs.declared.ids.TraitId.{TraitId}
use Rattle.dm_base.specs.declared.imports.ImportId.{ImportId}
use Rattle.dm_base.specs.declared.imports.ImportOrExternCrate.{ImportOrExternCrate}
use Rattle.dm_base.specs.declared.item_ids.ItemKind.TheVariants as item
use Rattle.dm_base.specs.declared.item_ids.ModuleDefId.{ModuleDefId}
use Rattle.dm_base.specs.declared.item_ids.ModuleDefId.TheVariants as def
use Rattle.dm_base.specs.declared.per_ns.Item.{Item}
use Rattle.dm_base.specs.declared.per_ns.PerNs.{PerNs}
use Rattle.dm_base.specs.declared.visibility.Visibility.{Visibility}
use Rattle.dm_base.specs.declared.visibility.Visibility.TheVariants.{Module, PubCrate, Public}
use Rattle.dm_base.specs.declared.visibility.VisibilityExplicitness.{VisibilityExplicitness}
use Rattle.dm_base.specs.declared.visibility.VisibilityExplicitness.TheVariants.{Explicit, Implicit}
use Rattle.dm_base.specs.Sameness.{same_visibility}
use Rattle.dm_base.specs.Tree.{Tree}
use Rattle.dm_base.specs.Visibility.{either_explicit, max_of}
use Rattle.dm_maps.specs.declared.check.held.HeldId.{HeldId}
use Rattle.dm_maps.specs.declared.check.held.HeldId.TheVariants as held
use Rattle.dm_maps.specs.Holding.{def_holds, import_holds, res_holds, type_holds, vis_holds}
use Rattle.dm_scope.specs.Scope.{Scope}
use Rattle.dm_maps.specs.GoesOn.{and_trait, trait_import_holds, with_unnamed_trait}
use Rattle.dm_maps.specs.Known.{knows, KnowsAll}
use Rattle.dm_maps.specs.Readings.{Setting, setting_of}
use Rattle.dm_maps.specs.Stays.{StaysKnown}
use Rattle.dm_maps.specs.Trees.{tree_of}
use Rattle.dm_maps.specs.World.{World, scope_of}
use Rattle.dm_maps.specs.KnownLaws.{knows-append, knows-left, types-known}
use Rattle.dm_retry.proofs.StartLemmas.{knows-from}
use Rattle.dm_retry.specs.Unnamed.{allows, is_as_permissive, is_new_trait, shows_trait, trait_in, trait_of, unnamed_answer, with_unnamed}

abbrev pub Entry : Type 0
Entry = TraitId × Visibility × Option ImportId

-- a scope t that has the unnamed traits of s, and maybe more
abbrev pub KeepsTraits : Scope → Scope → Type 0
KeepsTraits s t = (f : Entry → Bool) → list_any f s.unnamed_traits ≡ true → list_any f t.unnamed_traits ≡ true

pub tree-same : (w v : World) → StaysKnown w v → tree_of v ≡ tree_of w
unfolding setting_of
tree-same w v stays = ap (λ (s : Setting). s.tree) stays.setting

-- ---- One that would write nothing goes on to

module _ (w v : World) (stays : StaysKnown w v) where
  allows-stays : (m : ModuleId) (old new : Visibility) → allows v m old new ≡ allows w m old new
  allows-stays m old new = λ i. list_all (λ h. stays.id h i) (vis_holds old) && is_as_permissive (tree-same w v stays i) m old new

  shows-stays : (m : ModuleId) (t : TraitId) (new : Visibility) → shows_trait v m t new ≡ shows_trait w m t new
  shows-stays m t new = λ i. λ (e : Entry). nat_eq e.0.0 t.0 && allows-stays m e.1 new i

  trait-rests : (m : ModuleId) → KeepsTraits (scope_of w m) (scope_of v m) → (t : TraitId) (new : Visibility) → is_new_trait w m t new ≡ false → is_new_trait v m t new ≡ false
  trait-rests m keeps t new none =
      let there : list_any (shows_trait w m t new) (scope_of w m).unnamed_traits ≡ true = not-false (list_any (shows_trait w m t new) (scope_of w m).unnamed_traits) none in
      ap not (ap (λ (f : Entry → Bool). list_any f (scope_of v m).unnamed_traits) (shows-stays m t new) ∙ keeps (shows_trait w m t new) there)

  pub unnamed-rests : (m : ModuleId) → KeepsTraits (scope_of w m) (scope_of v m) → (new : Visibility) (x : PerNs) → unnamed_answer w m new x ≡ false → unnamed_answer v m new x ≡ false
  unnamed-rests m keeps new x none = by (trait_of x) none
    where
      by : (o : Option TraitId) → option_map_or (λ t. is_new_trait w m t new) o false ≡ false → option_map_or (λ t. is_new_trait v m t new) o false ≡ false
      by None none = refl
      by (Some t) none = trait-rests m keeps t new none

-- ---- One that writes nothing changes nothing

pub idle-unnamed : (w : World) (m : ModuleId) (v : Visibility) (i : ImportId) (x : PerNs) → unnamed_answer w m v x ≡ false → with_unnamed w m v i x ≡ w
idle-unnamed w m v i x none = by (trait_of x) none
  where
    by : (o : Option TraitId) → option_map_or (λ t. is_new_trait w m t v) o false ≡ false → option_map_or (λ t. cond (is_new_trait w m t v) (with_unnamed_trait w m t v (Some i)) w) o w ≡ w
    by None none = refl
    by (Some t) none = cond-false (is_new_trait w m t v) (with_unnamed_trait w m t v (Some i)) w none

-- ---- One that wrote does not write again

number-refl : (n : ℕ) → nat_eq n n ≡ true
number-refl = Prim.search rules

visibility-refl : (v : Visibility) → same_visibility v v ≡ true
visibility-refl = Prim.search rules

twice-explicit : (e : VisibilityExplicitness) → either_explicit e e ≡ e
twice-explicit Explicit = refl
twice-explicit Implicit = refl

-- of one visibility twice the most permissive is it
most-self : (t : Tree) (map : MapId) (v : Visibility) → max_of t map v v ≡ Some v
most-self t map Public = refl
most-self t map (PubCrate k) = cond-true (nat_eq k.0 k.0) (Some (PubCrate k)) None (number-refl k.0)
most-self t map (Module m e) = cond-true (nat_eq m.0 m.0) (Some (Module m (either_explicit e e))) _ (number-refl m.0) ∙ ap (λ x. Some (Module m x)) (twice-explicit e)

all-known : (w : World) (hs : List HeldId) → KnowsAll w hs → list_all (knows w) hs ≡ true
all-known w [] k = refl
all-known w (h ∷ hs) k = λ i. k.0 i && all-known w hs k.1 i

-- what a test of a visibility says
pub known-told : (w : World) (v : Visibility) (b : Bool) → (IsTrue b → KnowsAll w (vis_holds v)) → (KnowsAll w (vis_holds v) → IsTrue b) → list_all (knows w) (vis_holds v) ≡ b
known-told w v true to from = all-known w (vis_holds v) (to refl)
known-told w v false to from = by (list_all (knows w) (vis_holds v)) refl
  where
    by : (c : Bool) → list_all (knows w) (vis_holds v) ≡ c → c ≡ false
    by true e = absurd (true≢false (sym (from (knows-from w (vis_holds v) e))))
    by false e = refl

allows-self : (w : World) (m : ModuleId) (v : Visibility) → KnowsAll w (vis_holds v) → allows w m v v ≡ true
allows-self w m v k =
    let most = ap (λ o. option_eq same_visibility o (Some v)) (most-self (tree_of w) ((tree_of w).map_of m) v) ∙ visibility-refl v in
    λ i. all-known w (vis_holds v) k i && most i

or_right : (a b : Bool) → b ≡ true → (a || b) ≡ true
or_right true b h = refl
or_right false b h = h

pub shown-again : (w v : World) (m : ModuleId) (t : TraitId) (new : Visibility) (by : Option ImportId) → KnowsAll v (vis_holds new)
    → scope_of v m ≡ and_trait (scope_of w m) t new by → is_new_trait v m t new ≡ false
shown-again w v m t new by known own =
    let f = shows_trait v m t new in
    let last : f (t, new, by) ≡ true = λ i. number-refl t.0 i && allows-self v m new known i in
    ap (λ (s : Scope). not (list_any f s.unnamed_traits)) own
    ∙ ap not (list_any-append f (scope_of w m).unnamed_traits ((t, new, by) ∷ [])
    ∙ or_right (list_any f (scope_of w m).unnamed_traits) (f (t, new, by) || false) (or_left (f (t, new, by)) false last))

-- ---- What is put among the unnamed ones is the world's

in-def : (w : World) (d : ModuleDefId) (t : TraitId) → KnowsAll w (def_holds d) → trait_in d ≡ Some t → IsTrue (knows w (held.Item item.Trait t.0))
in-def w (def.ModuleId a) t k e = cc
in-def w (def.FunctionId a) t k e = cc
in-def w (def.AdtId a) t k e = cc
in-def w (def.EnumVariantId a) t k e = cc
in-def w (def.ConstId a) t k e = cc
in-def w (def.StaticId a) t k e = cc
in-def w (def.TraitId a) t k e = let same : a ≡ t = cc in ap (λ (z : TraitId). knows w (held.Item item.Trait z.0)) (sym same) ∙ k.0
in-def w (def.TypeAliasId a) t k e = cc
in-def w (def.BuiltinType a) t k e = cc
in-def w (def.MacroId a) t k e = cc

pub trait-known : (w : World) (x : PerNs) (t : TraitId) → KnowsAll w (res_holds x) → trait_of x ≡ Some t → IsTrue (knows w (held.Item item.Trait t.0))
trait-known w x t k is = of x.types (types-known w x k) is
  where
    of : (o : Option (Item ModuleDefId ImportOrExternCrate)) → KnowsAll w (option_map_or type_holds o []) → option_and_then (λ i. trait_in i.def) o ≡ Some t → IsTrue (knows w (held.Item item.Trait t.0))
    of None k e = cc
    of (Some i) k e = in-def w i.def t (knows-left w (def_holds i.def) (vis_holds i.vis) (knows-left w (def_holds i.def ++ vis_holds i.vis) (option_map_or import_holds i.import []) k)) e

pub may-push : (w : World) (m : ModuleId) (x : PerNs) (t : TraitId) (v : Visibility) (i : ImportId)
    → IsTrue (knows w (held.Module m)) → IsTrue (knows w (held.Use i.use_)) → KnowsAll w (vis_holds v) → KnowsAll w (res_holds x) → trait_of x ≡ Some t
    → KnowsAll w (trait_import_holds m t v (Some i))
may-push w m x t v i home use_ seen k is = (home, (trait-known w x t k is, knows-append w (vis_holds v) (held.Use i.use_ ∷ []) seen (use_, tt)))

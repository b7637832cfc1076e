-- An item, a use, a variant or a macro that a builder adds is known, and what was there stays.
use Rattle.std.proofs.Common.{◌≡◌, ◌∙◌, ℕ, true, false, [], ◌∷◌, length, slice_get, refl, sym, ap, subst, arith, IsTrue}
use Rattle.std.specs.Option.{option_map_or}
use Rattle.dm_maps.proofs.Ids.{EnumId, EnumVariantId, FieldsShape, ItemKind, MacroId, MacroLoc, ModuleDefId, ModuleId, Name, UseId}
use Rattle.dm_base.specs.declared.item_ids.ItemKind.TheVariants as item
use Rattle.dm_base.specs.declared.macros.MacroLoc.TheVariants as loc
use Rattle.dm_maps.specs.declared.check.held.HeldId.{HeldId}
use Rattle.dm_maps.specs.declared.check.held.HeldId.TheVariants as held
use Rattle.dm_maps.specs.Holding.{def_holds}
use Rattle.dm_maps.specs.Kinds.{same_kind, is_of_kind}
use Rattle.dm_maps.specs.Added.{AreAdded}
use Rattle.dm_maps.specs.Build.{item_def, with_item}
use Rattle.dm_maps.specs.BuildItems.{macro_id, next_use, next_variant, with_macro, with_use, with_variant}
use Rattle.dm_maps.specs.Known.{knows}
use Rattle.dm_maps.specs.World.{World, scope_of}
use Rattle.dm_maps.proofs.EntryLemmas.{get-last}
use Rattle.dm_maps.proofs.GrownLemmas.{Widens, grows, at-end, end-among, more-push, end-past, longer-push, longer-same}

-- ---- Items, uses, variants and macros more.

-- an id more, where scopes and places are the same
one : (w v : World) (h : HeldId) → Widens w v → v.places ≡ w.places → ((k : ModuleId) → scope_of v k ≡ scope_of w k) → knows w h ≡ false → IsTrue (knows v h) → AreAdded w v (h ∷ [])
one w v h more places scopes fresh known = record {
  grown = grows w v more scopes (λ k there. ap (λ l. slice_get l k.0) places);
  fresh = (fresh, tt);
  known = (known, tt);
}

same_kind-own : (k : ItemKind) → same_kind k k ≡ true
same_kind-own item.Function = refl
same_kind-own item.Struct = refl
same_kind-own item.Union = refl
same_kind-own item.Enum = refl
same_kind-own item.Const = refl
same_kind-own item.Static = refl
same_kind-own item.Trait = refl
same_kind-own item.TypeAlias = refl

def_holds-item : (k : ItemKind) (n : ℕ) → def_holds (item_def k n) ≡ held.Item k n ∷ []
def_holds-item item.Function n = refl
def_holds-item item.Struct n = refl
def_holds-item item.Union n = refl
def_holds-item item.Enum n = refl
def_holds-item item.Const n = refl
def_holds-item item.Static n = refl
def_holds-item item.Trait n = refl
def_holds-item item.TypeAlias n = refl

module _ (w : World) where
  item-added : (k : ItemKind) (m : ModuleId) → AreAdded w (with_item w k m) (def_holds (item_def k (length w.items)))
  item-added k m =
      subst (AreAdded w (with_item w k m)) (sym (def_holds-item k (length w.items)))
      (one w (with_item w k m) (held.Item k (length w.items)) (record {
        places = omega arith;
        crates = omega arith;
        uses = omega arith;
        items = longer-push w.items (k, m);
        variants = omega arith;
        macros = longer-same w.macros;
      }) refl (λ x. refl)
      (ap (λ o. option_map_or (λ (i : ItemKind × ModuleId). same_kind k i.0) o false) (at-end w.items))
      (ap (λ o. option_map_or (λ (i : ItemKind × ModuleId). same_kind k i.0) o false) (get-last w.items (k, m)) ∙ same_kind-own k))

  use-added : (m : ModuleId) → AreAdded w (with_use w m) (held.Use (next_use w) ∷ [])
  use-added m = one w (with_use w m) (held.Use (next_use w)) (record {
    places = omega arith;
    crates = omega arith;
    uses = more-push w.uses m;
    items = longer-same w.items;
    variants = omega arith;
    macros = longer-same w.macros;
  }) refl (λ x. refl) (end-past (length w.uses)) (end-among w.uses m)

  variant-added : (e : EnumId) (n : Name) (s : FieldsShape) → AreAdded w (with_variant w e n s) (held.Variant (next_variant w) ∷ [])
  variant-added e n s = one w (with_variant w e n s) (held.Variant (next_variant w)) (record {
    places = omega arith;
    crates = omega arith;
    uses = omega arith;
    items = longer-same w.items;
    variants = more-push w.variants e;
    macros = longer-same w.macros;
  }) refl (λ x. refl) (end-past (length w.variants)) (end-among w.variants e)

  macro-added : (m : ModuleId) (l : MacroLoc) → AreAdded w (with_macro w m l) (held.Macro (macro_id l (length w.macros)) ∷ [])
  macro-added m l = one w (with_macro w m l) (held.Macro (macro_id l (length w.macros))) (record {
    places = omega arith;
    crates = omega arith;
    uses = omega arith;
    items = longer-same w.items;
    variants = omega arith;
    macros = longer-push w.macros (m, l);
  }) refl (λ x. refl) (unknown l) (own l)
    where
      unknown : (x : MacroLoc) → knows w (held.Macro (macro_id x (length w.macros))) ≡ false
      unknown (loc.Macro2 e) = ap (λ o. option_map_or (λ (y : ModuleId × MacroLoc). is_of_kind (macro_id (loc.Macro2 e) (length w.macros)) y.1) o false) (at-end w.macros)
      unknown (loc.MacroRules e) = ap (λ o. option_map_or (λ (y : ModuleId × MacroLoc). is_of_kind (macro_id (loc.MacroRules e) (length w.macros)) y.1) o false) (at-end w.macros)
      unknown (loc.Proc k) = ap (λ o. option_map_or (λ (y : ModuleId × MacroLoc). is_of_kind (macro_id (loc.Proc k) (length w.macros)) y.1) o false) (at-end w.macros)

      own : (x : MacroLoc) → IsTrue (knows (with_macro w m x) (held.Macro (macro_id x (length w.macros))))
      own (loc.Macro2 e) = ap (λ o. option_map_or (λ (y : ModuleId × MacroLoc). is_of_kind (macro_id (loc.Macro2 e) (length w.macros)) y.1) o false) (get-last w.macros (m, loc.Macro2 e))
      own (loc.MacroRules e) = ap (λ o. option_map_or (λ (y : ModuleId × MacroLoc). is_of_kind (macro_id (loc.MacroRules e) (length w.macros)) y.1) o false) (get-last w.macros (m, loc.MacroRules e))
      own (loc.Proc k) = ap (λ o. option_map_or (λ (y : ModuleId × MacroLoc). is_of_kind (macro_id (loc.Proc k) (length w.macros)) y.1) o false) (get-last w.macros (m, loc.Proc k))

module _ (w v : World) where
  pub added-item : (k : ItemKind) (m : ModuleId) (d : ModuleDefId) → v ≡ with_item w k m → d ≡ item_def k (length w.items) → AreAdded w v (def_holds d)
  added-item k m d made number = subst (λ (x : World × ModuleDefId). AreAdded w x.0 (def_holds x.1)) (λ i. (sym made i, sym number i)) (item-added w k m)

  pub added-use : (m : ModuleId) (u : UseId) → v ≡ with_use w m → u ≡ next_use w → AreAdded w v (held.Use u ∷ [])
  added-use m u made number = subst (λ (x : World × UseId). AreAdded w x.0 (held.Use x.1 ∷ [])) (λ i. (sym made i, sym number i)) (use-added w m)

  pub added-variant : (e : EnumId) (n : Name) (s : FieldsShape) (x : EnumVariantId) → v ≡ with_variant w e n s → x ≡ next_variant w → AreAdded w v (held.Variant x ∷ [])
  added-variant e n s x made number = subst (λ (y : World × EnumVariantId). AreAdded w y.0 (held.Variant y.1 ∷ [])) (λ i. (sym made i, sym number i)) (variant-added w e n s)

  pub added-macro : (m : ModuleId) (l : MacroLoc) (x : MacroId) → v ≡ with_macro w m l → x ≡ macro_id l (length w.macros) → AreAdded w v (held.Macro x ∷ [])
  added-macro m l x made number = subst (λ (y : World × MacroId). AreAdded w y.0 (held.Macro y.1 ∷ [])) (λ i. (sym made i, sym number i)) (macro-added w m l)

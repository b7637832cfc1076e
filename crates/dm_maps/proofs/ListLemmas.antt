-- The lists of a world hold modules and variants of its own, also when one grows.
use Rattle.std.proofs.Common.{◌≡◌, ◌<◌, ◌≤◌, ◌+◌, ℕ, Bool, true, false, cond, List, [], ◌∷◌, ◌++◌, Option, None, Some, length, slice_get, refl, sym, ap, ◌∙◌, subst, arith, true≢false, IsTrue, length-append}
use Rattle.std.specs.List.{AllByRecursion}
use Rattle.std.specs.Map.{lookup}
use Rattle.std.proofs.lemmas.Bool.{ltb-true, lt-ltb}
use Rattle.indexmap.specs.IndexMap.{insert_entry}
use Rattle.dm_maps.proofs.Ids.{EnumId, EnumVariantId, FieldsShape, ItemKind, MacroId, MacroLoc, ModuleDefId, ModuleId, Name, UseId, find_name, same_name}
use Rattle.dm_base.specs.declared.item_ids.ItemKind.TheVariants as item
use Rattle.dm_def_map.specs.Variants.{same_enum, Enums, Variants, variants_in, enums_with_variant}
use Rattle.dm_maps.specs.declared.check.held.HeldId.TheVariants as held
use Rattle.dm_maps.specs.Kinds.{same_kind, macro_number, is_of_kind}
use Rattle.dm_base.specs.declared.item_ids.ModuleDefId.TheVariants as def
use Rattle.dm_base.specs.declared.item_ids.AdtId.TheVariants as adt
use Rattle.std.specs.Option.{ForSome, option_map_or, option_and_then}
use Rattle.std.proofs.lemmas.Option.{slice_get_within}
use Rattle.dm_maps.specs.CutLaws.{same-enum}
use Rattle.dm_maps.specs.World.{World}
use Rattle.dm_maps.specs.BuildItems.{with_use, with_macro, with_variant}
use Rattle.dm_maps.specs.Build.{with_item}
use Rattle.dm_maps.specs.ItemHomes.{module_of_item, module_of_def, module_of_macro}
use Rattle.dm_maps.specs.Known.{knows}
use Rattle.dm_maps.specs.Readings.{variants_of}
use Rattle.dm_maps.specs.Lists.{Items, IsAmong, HaveModules, IsEnum, HaveEnums, AreListed, IsListed}
use Rattle.dm_maps.proofs.AllLemmas.{all-get, all-push, all-weaker, found, for_none, for_some}
use Rattle.dm_maps.proofs.EntryLemmas.{get-append, get-last}

-- ---- Modules.

among-more : (n k : ℕ) → n ≤ k → (m : ModuleId) → IsAmong n m → IsAmong k m
among-more n k le m h = let l : m.0 < n = ltb-true m.0 n h in lt-ltb m.0 k (omega arith)

-- with modules more
pub HaveModules-more : (n k : ℕ) (us : List ModuleId) (is : Items) (ms : List (ModuleId × MacroLoc)) → n ≤ k → HaveModules n us is ms → HaveModules k us is ms
HaveModules-more n k us is ms le h = record {
  of_uses = all-weaker (IsAmong n) (IsAmong k) (among-more n k le) us h.of_uses;
  of_items = all-weaker (λ (i : ItemKind × ModuleId). IsAmong n i.1) (λ i. IsAmong k i.1) (λ i g. among-more n k le i.1 g) is h.of_items;
  of_macros = all-weaker (λ (e : ModuleId × MacroLoc). IsAmong n e.0) (λ e. IsAmong k e.0) (λ e g. among-more n k le e.0 g) ms h.of_macros;
}

pub HaveModules-push : {X : Type 0} (xs : List X) (x : X) (us : List ModuleId) (is : Items) (ms : List (ModuleId × MacroLoc)) → HaveModules (length xs) us is ms → HaveModules (length (xs ++ x ∷ [])) us is ms
HaveModules-push xs x us is ms h =
    let more : length (xs ++ x ∷ []) ≡ length xs + 1 = length-append xs (x ∷ []) in
    HaveModules-more (length xs) (length (xs ++ x ∷ [])) us is ms (omega arith) h

module _ (n : ℕ) (us : List ModuleId) (is : Items) (ms : List (ModuleId × MacroLoc)) (h : HaveModules n us is ms) where
  -- with a use, an item or a macro more
  pub HaveModules-use : (m : ModuleId) → IsAmong n m → HaveModules n (us ++ m ∷ []) is ms
  HaveModules-use m known = record { of_uses = all-push (IsAmong n) us m h.of_uses known; of_items = h.of_items; of_macros = h.of_macros }

  pub HaveModules-item : (k : ItemKind) (m : ModuleId) → IsAmong n m → HaveModules n us (is ++ (k, m) ∷ []) ms
  HaveModules-item k m known = record { of_uses = h.of_uses; of_items = all-push (λ (i : ItemKind × ModuleId). IsAmong n i.1) is (k, m) h.of_items known; of_macros = h.of_macros }

  pub HaveModules-macro : (m : ModuleId) (l : MacroLoc) → IsAmong n m → HaveModules n us is (ms ++ (m, l) ∷ [])
  HaveModules-macro m l known = record { of_uses = h.of_uses; of_items = h.of_items; of_macros = all-push (λ (e : ModuleId × MacroLoc). IsAmong n e.0) ms (m, l) h.of_macros known }

-- ---- Variants.

-- an item more
IsEnum-push : (is : Items) (x : ItemKind × ModuleId) (e : EnumId) → IsEnum is e → IsEnum (is ++ x ∷ []) e
IsEnum-push is x e h = by (slice_get is e.0) refl h
  where
    by : (o : Option (ItemKind × ModuleId)) → slice_get is e.0 ≡ o → IsTrue (option_map_or (λ i. same_kind item.Enum i.0) o false) → IsEnum (is ++ x ∷ []) e
    by None g k = absurd (true≢false (sym k))
    by (Some y) g k = ap (λ o. option_map_or (λ i. same_kind item.Enum i.0) o false) (get-append is (x ∷ []) e.0 y g) ∙ k

pub HaveEnums-item : (is : Items) (x : ItemKind × ModuleId) (es : Enums) (vs : List EnumId) → HaveEnums is es vs → HaveEnums (is ++ x ∷ []) es vs
HaveEnums-item is x es vs h = record { of_variants = all-weaker (IsEnum is) (IsEnum (is ++ x ∷ [])) (IsEnum-push is x) vs h.of_variants; own = h.own }

-- a variant of the enum d
abbrev IsOf : List EnumId → EnumId → Name × (EnumVariantId × FieldsShape) → Type 0
IsOf vs d v = slice_get vs v.1.0.0 ≡ Some d

abbrev IsOwn : List EnumId → EnumId × Variants → Type 0
IsOwn vs e = AllByRecursion (IsOf vs e.0) e.1

-- the variants that are found of an enum are its own
pub variants_in-own : (vs : List EnumId) (es : Enums) (e : EnumId) → AllByRecursion (IsOwn vs) es → AllByRecursion (IsOf vs e) (variants_in es e)
variants_in-own vs [] e h = tt
variants_in-own vs (x ∷ es) e h = by (same_enum e x.0) refl (variants_in-own vs es e h.1)
  where
    by : (b : Bool) → same_enum e x.0 ≡ b → AllByRecursion (IsOf vs e) (variants_in es e) → AllByRecursion (IsOf vs e) (option_map_or (λ l. l) (cond b (Some x.1) (lookup (same_enum e) es)) [])
    by true t rest = subst (λ d. AllByRecursion (IsOf vs d) x.1) (sym (same-enum e x.0 t)) h.0
    by false t rest = rest

-- and stay its own where they are put under it
put-own : (vs : List EnumId) (es : Enums) (e : EnumId) (l : Variants) → AllByRecursion (IsOwn vs) es → AllByRecursion (IsOf vs e) l → AllByRecursion (IsOwn vs) (insert_entry same_enum es e l)
put-own vs [] e l h g = (g, tt)
put-own vs (x ∷ es) e l h g = by (same_enum e x.0) refl (put-own vs es e l h.1 g)
  where
    by : (b : Bool) → same_enum e x.0 ≡ b → AllByRecursion (IsOwn vs) (insert_entry same_enum es e l) → AllByRecursion (IsOwn vs) (cond b ((x.0, l) ∷ es) (x ∷ insert_entry same_enum es e l))
    by true t rest = (subst (λ d. AllByRecursion (IsOf vs d) l) (same-enum e x.0 t) g, h.1)
    by false t rest = (h.0, rest)

-- a variant more
pub HaveEnums-variant : (is : Items) (es : Enums) (vs : List EnumId) (e : EnumId) (n : Name) (s : FieldsShape) → IsEnum is e → HaveEnums is es vs → HaveEnums is (enums_with_variant es e n (record { 0 = length vs }, s)) (vs ++ e ∷ [])
HaveEnums-variant is es vs e n s known h =
    let more = vs ++ e ∷ [] in
    let own : AllByRecursion (IsOwn more) es =
    all-weaker (IsOwn vs) (IsOwn more) (λ x g. all-weaker (IsOf vs x.0) (IsOf more x.0) (λ v k. get-append vs (e ∷ []) v.1.0.0 x.0 k) x.1 g) es h.own in record {
      of_variants = all-push (IsEnum is) vs e h.of_variants known;
      own = put-own more es e (variants_in es e ++ (n, (record { 0 = length vs }, s)) ∷ []) own (all-push (IsOf more e) (variants_in es e) (n, (record { 0 = length vs }, s)) (variants_in-own more es e own) (get-last vs e));
    }

-- ---- The lists of a world.

-- with a place more, whatever it is
pub AreListed-push : {X : Type 0} (ps : List X) (p : X) (us : List ModuleId) (is : Items) (ms : List (ModuleId × MacroLoc)) (es : Enums) (vs : List EnumId) → AreListed (length ps) us is ms es vs → AreListed (length (ps ++ p ∷ [])) us is ms es vs
unfolding AreListed
AreListed-push ps p us is ms es vs h = (HaveModules-push ps p us is ms h.0, h.1)

module _ (w : World) (h : IsListed w) where
  pub IsListed-use : (m : ModuleId) → IsAmong (length w.places) m → IsListed (with_use w m)
  unfolding AreListed
  IsListed-use m known = (HaveModules-use (length w.places) w.uses w.items w.macros h.0 m known, h.1)

  pub IsListed-item : (k : ItemKind) (m : ModuleId) → IsAmong (length w.places) m → IsListed (with_item w k m)
  unfolding AreListed
  IsListed-item k m known = (HaveModules-item (length w.places) w.uses w.items w.macros h.0 k m known, HaveEnums-item w.items (k, m) w.enums w.variants h.1)

  pub IsListed-macro : (m : ModuleId) (l : MacroLoc) → IsAmong (length w.places) m → IsListed (with_macro w m l)
  unfolding AreListed
  IsListed-macro m l known = (HaveModules-macro (length w.places) w.uses w.items w.macros h.0 m l known, h.1)

  pub IsListed-variant : (e : EnumId) (n : Name) (s : FieldsShape) → IsEnum w.items e → IsListed (with_variant w e n s)
  unfolding AreListed
  IsListed-variant e n s known = (h.0, HaveEnums-variant w.items w.enums w.variants e n s known h.1)

  -- ---- What is found in them.

  -- the module of a use
  pub use-among : (u : UseId) → ForSome (slice_get w.uses u.0) (λ m. IsTrue (knows w (held.Module m)))
  unfolding AreListed
  use-among u m e = all-get (IsAmong (length w.places)) w.uses u.0 m h.0.of_uses e

  item-among : (k : ItemKind) (n : ℕ) → ForSome (module_of_item w k n) (λ m. IsTrue (knows w (held.Module m)))
  unfolding AreListed
  item-among k n = by (slice_get w.items n) refl
    where
      at : (b : Bool) (m : ModuleId) → IsTrue (knows w (held.Module m)) → ForSome (cond b (Some m) None) (λ x. IsTrue (knows w (held.Module x)))
      at true m g = for_some (λ x. IsTrue (knows w (held.Module x))) m g
      at false m g = for_none (λ x. IsTrue (knows w (held.Module x)))

      by : (o : Option (ItemKind × ModuleId)) → slice_get w.items n ≡ o → ForSome (option_and_then (λ (i : ItemKind × ModuleId). cond (same_kind k i.0) (Some i.1) None) o) (λ m. IsTrue (knows w (held.Module m)))
      by None e = for_none (λ m. IsTrue (knows w (held.Module m)))
      by (Some i) e = at (same_kind k i.0) i.1 (all-get (λ (x : ItemKind × ModuleId). IsAmong (length w.places) x.1) w.items n i h.0.of_items e)

  -- the module of an item
  pub def-among : (d : ModuleDefId) → ForSome (module_of_def w d) (λ m. IsTrue (knows w (held.Module m)))
  def-among (def.ModuleId m) = for_none (λ x. IsTrue (knows w (held.Module x)))
  def-among (def.FunctionId n) = item-among item.Function n.0
  def-among (def.AdtId (adt.StructId n)) = item-among item.Struct n.0
  def-among (def.AdtId (adt.UnionId n)) = item-among item.Union n.0
  def-among (def.AdtId (adt.EnumId n)) = item-among item.Enum n.0
  def-among (def.EnumVariantId v) = for_none (λ x. IsTrue (knows w (held.Module x)))
  def-among (def.ConstId n) = item-among item.Const n.0
  def-among (def.StaticId n) = item-among item.Static n.0
  def-among (def.TraitId n) = item-among item.Trait n.0
  def-among (def.TypeAliasId n) = item-among item.TypeAlias n.0
  def-among (def.BuiltinType b) = for_none (λ x. IsTrue (knows w (held.Module x)))
  def-among (def.MacroId m) = for_none (λ x. IsTrue (knows w (held.Module x)))

  -- and of a macro
  pub macro-among : (m : MacroId) → ForSome (module_of_macro w m) (λ x. IsTrue (knows w (held.Module x)))
  unfolding AreListed
  macro-among m = by (slice_get w.macros (macro_number m)) refl
    where
      at : (b : Bool) (x : ModuleId) → IsTrue (knows w (held.Module x)) → ForSome (cond b (Some x) None) (λ y. IsTrue (knows w (held.Module y)))
      at true x g = for_some (λ y. IsTrue (knows w (held.Module y))) x g
      at false x g = for_none (λ y. IsTrue (knows w (held.Module y)))

      by : (o : Option (ModuleId × MacroLoc)) → slice_get w.macros (macro_number m) ≡ o → ForSome (option_and_then (λ (e : ModuleId × MacroLoc). cond (is_of_kind m e.1) (Some e.0) None) o) (λ x. IsTrue (knows w (held.Module x)))
      by None e = for_none (λ x. IsTrue (knows w (held.Module x)))
      by (Some y) e = at (is_of_kind m y.1) y.0 (all-get (λ (x : ModuleId × MacroLoc). IsAmong (length w.places) x.0) w.macros (macro_number m) y h.0.of_macros e)

  -- the enum of a variant
  pub variant-enum : (v : EnumVariantId) → ForSome (slice_get w.variants v.0) (λ e. IsTrue (knows w (held.Item item.Enum e.0)))
  unfolding AreListed
  variant-enum v e g = all-get (IsEnum w.items) w.variants v.0 e h.1.of_variants g

  -- a variant that an enum has under a name
  pub variant-own : (e : EnumId) (n : Name) → ForSome (find_name n (variants_of w e)) (λ x. slice_get w.variants x.0.0 ≡ Some e)
  unfolding AreListed
  variant-own e n x g =
      found (λ (y : EnumVariantId × FieldsShape). slice_get w.variants y.0.0 ≡ Some e) (same_name n) (variants_of w e) x (variants_in-own w.variants w.enums e h.1.own) g

  pub variant-known : (e : EnumId) (n : Name) → ForSome (find_name n (variants_of w e)) (λ x. IsTrue (knows w (held.Variant x.0)))
  variant-known e n x g = lt-ltb x.0.0 (length w.variants) (slice_get_within w.variants x.0.0 e (variant-own e n x g))

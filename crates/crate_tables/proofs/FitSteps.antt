-- A world that knows all that it holds goes on so as a builder adds to it, where what is added is known.
use Rattle.std.proofs.Common.{◌≡◌, ◌≤◌, ◌<◌, ◌∙◌, ℕ, suc, zero, Bool, true, false, cond, List, [], ◌∷◌, ◌++◌, Option, None, Some, length, length-append, nat_lt, set, slice_get, ap, arith, refl, sym, true≢false}
use Rattle.std.proofs.lemmas.Bool.{lt-ltb, ltb-true}
use Rattle.std.specs.Prelude.{IsTrue}
use Rattle.std.specs.List.{AllByRecursion, flat_map}
use Rattle.std.specs.Option.{option_map_or}
use Rattle.indexmap.specs.IndexMap.{insert_entry}
use Rattle.crate_tables.proofs.AllLemmas.{all-append, all-get, all-left, all-push, all-right, all-set, all-weaker, entry-put}
use Rattle.crate_tables.proofs.FitLemmas.{Fits, IsFit, IsFitLocal, IsFitMap, Known, fits-weaker, put}
use Rattle.dm_base.specs.Names.{Name, same_name}
use Rattle.dm_base.specs.declared.edition.Edition.{Edition}
use Rattle.dm_base.specs.declared.fields_shape.FieldsShape.{FieldsShape}
use Rattle.dm_base.specs.declared.ids.Crate.{Crate}
use Rattle.dm_base.specs.declared.ids.EnumId.{EnumId}
use Rattle.dm_base.specs.declared.ids.ExternCrateId.{ExternCrateId}
use Rattle.dm_base.specs.declared.ids.ModuleId.{ModuleId}
use Rattle.dm_base.specs.declared.ids.TraitId.{TraitId}
use Rattle.dm_base.specs.declared.item_ids.AssocItemId.{AssocItemId}
use Rattle.dm_base.specs.declared.item_ids.ItemContainerId.{ItemContainerId}
use Rattle.dm_base.specs.declared.item_ids.ItemKind.{ItemKind}
use Rattle.dm_base.specs.declared.item_ids.ItemKind.TheVariants as item
use Rattle.dm_base.specs.declared.item_ids.VariantId.{VariantId}
use Rattle.dm_base.specs.declared.macros.MacroLoc.{MacroLoc}
use Rattle.dm_base.specs.declared.macros.MacroLoc.TheVariants as loc
use Rattle.dm_base.specs.declared.source.EditionedFileId.{EditionedFileId}
use Rattle.dm_base.specs.declared.visibility.RawVisibility.{RawVisibility}
use Rattle.dm_def_map.specs.ItemTables.{ItemTables}
use Rattle.dm_def_map.specs.Keys.{same_assoc, same_trait, same_variant}
use Rattle.dm_def_map.specs.Locals.{with_extern}
use Rattle.dm_def_map.specs.TableChanges.{with_assoc}
use Rattle.dm_def_map.specs.Maps.{LocalMap}
use Rattle.dm_maps.specs.Build.{with_crate, with_item}
use Rattle.dm_maps.specs.BuildItems.{macro_id, next_use, next_variant, with_macro, with_use, with_variant}
use Rattle.dm_maps.specs.BuildMaps.{locals_with, with_extern_of}
use Rattle.dm_maps.specs.BuildTables.{with_fields, with_trait_visibility}
use Rattle.dm_maps.specs.Kinds.{is_of_kind, macro_number, same_kind}
use Rattle.dm_maps.specs.Known.{knows, KnowsAll}
use Rattle.dm_maps.specs.TablesHold.{assoc_holds, assoc_id_holds, container_holds, field_list_holds, raw_holds, tables_hold, trait_holds, variant_holds}
use Rattle.dm_maps.specs.World.{World}
use Rattle.dm_maps.specs.declared.check.held.HeldId.{HeldId}
use Rattle.dm_maps.specs.declared.check.held.HeldId.TheVariants as held

-- v knows what w knows, and all that it holds
pub record Goes (w v : World) : Type 0 where
  pub wider : (h : HeldId) → Known w h → Known v h
  pub fit : IsFit v

pub goes-same : (w : World) → IsFit w → Goes w w
goes-same w fit = record { wider = λ h k. k; fit = fit }

pub goes-further : (u v w : World) → Goes u v → Goes v w → Goes u w
goes-further u v w a b = record { wider = λ h k. b.wider h (a.wider h k); fit = b.fit }

pub all-wider : (w v : World) → Goes w v → (hs : List HeldId) → KnowsAll w hs → KnowsAll v hs
all-wider w v goes hs k = all-weaker (Known w) (Known v) goes.wider hs k

pub goes-by : (w v : World) → IsFit w → ((h : HeldId) → Known w h → Known v h) → (Fits (Known v) w → IsFit v) → Goes w v
goes-by w v fit wider step = record { wider = wider; fit = step (fits-weaker (Known w) (Known v) wider w fit) }

-- ---- What is known stays known.

abbrev pub Longer : {X : Type 0} → List X → List X → Type 0
Longer {X} xs ys = (i : ℕ) (x : X) → slice_get xs i ≡ Some x → slice_get ys i ≡ Some x

pub longer-same : {X : Type 0} (xs : List X) → Longer xs xs
longer-same xs i x h = h

longer-push : {X : Type 0} (xs ys : List X) → Longer xs (xs ++ ys)
longer-push [] ys i x h = cc
longer-push (z ∷ zs) ys zero x h = h
longer-push (z ∷ zs) ys (suc i) x h = longer-push zs ys i x h

stands-on : {X : Type 0} (f : X → Bool) (xs ys : List X) (i : ℕ) → Longer xs ys → IsTrue (option_map_or f (slice_get xs i) false) → IsTrue (option_map_or f (slice_get ys i) false)
stands-on {X} f xs ys i longer h = by (slice_get xs i) refl h
  where
    by : (o : Option X) → slice_get xs i ≡ o → IsTrue (option_map_or f o false) → IsTrue (option_map_or f (slice_get ys i) false)
    by None e g = absurd (true≢false (sym g))
    by (Some x) e g = ap (λ o. option_map_or f o false) (longer i x e) ∙ g

among-more : (n k i : ℕ) → n ≤ k → IsTrue (nat_lt i n) → IsTrue (nat_lt i k)
among-more n k i le h = let l : i < n = ltb-true i n h in lt-ltb i k (omega arith)

pub record Widens (w v : World) : Type 0 where
  pub places : length w.places ≤ length v.places
  pub crates : length w.crate_maps ≤ length v.crate_maps
  pub uses : length w.uses ≤ length v.uses
  pub items : Longer w.items v.items
  pub variants : length w.variants ≤ length v.variants
  pub macros : Longer w.macros v.macros

pub known-on : (w v : World) → Widens w v → (h : HeldId) → Known w h → Known v h
known-on w v more (held.Module m) h = among-more (length w.places) (length v.places) m.0 more.places h
known-on w v more (held.Crate k) h = among-more (length w.crate_maps) (length v.crate_maps) k.0 more.crates h
known-on w v more (held.Use u) h = among-more (length w.uses) (length v.uses) u.0 more.uses h
known-on w v more (held.Item k n) h = stands-on (λ (i : ItemKind × ModuleId). same_kind k i.0) w.items v.items n more.items h
known-on w v more (held.Variant x) h = among-more (length w.variants) (length v.variants) x.0 more.variants h
known-on w v more (held.Macro m) h = stands-on (λ (e : ModuleId × MacroLoc). is_of_kind m e.1) w.macros v.macros (macro_number m) more.macros h

pub more-push : {X : Type 0} (xs : List X) (x : X) → length xs ≤ length (xs ++ x ∷ [])
more-push xs x = omega (arith, length-append xs (x ∷ []))

pub end-among : {X : Type 0} (xs : List X) (x : X) → IsTrue (nat_lt (length xs) (length (xs ++ x ∷ [])))
end-among xs x = lt-ltb (length xs) (length (xs ++ x ∷ [])) (omega (arith, length-append xs (x ∷ [])))

get-last : {X : Type 0} (xs : List X) (x : X) → slice_get (xs ++ x ∷ []) (length xs) ≡ Some x
get-last [] x = refl
get-last (y ∷ ys) x = get-last ys x

-- ---- A crate, a use, a macro, an item, a variant more.

pub goes-crate : (w : World) (e : Edition) (f : EditionedFileId) → IsFit w → Goes w (with_crate w e f)
goes-crate w e f is =
    let v = with_crate w e f in
    goes-by w v is (known-on w v (record {
      places = omega (arith, length-append w.places);
      crates = omega (arith, length-append w.crate_maps);
      uses = omega arith;
      items = longer-same w.items;
      variants = omega arith;
      macros = longer-same w.macros;
    }))
    (λ fit. record {
      maps = record { crates = all-push (IsFitMap (Known v)) w.crate_maps _ fit.maps.crates (record { holds = tt; shared = tt; modules = (tt, tt) }); blocks = fit.maps.blocks };
      locals = all-push (IsFitLocal (Known v)) w.local_maps [] fit.locals tt;
      tables = fit.tables;
    })

pub goes-use : (w : World) (m : ModuleId) → IsFit w → Goes w (with_use w m)
goes-use w m is = goes-by w (with_use w m) is (known-on w (with_use w m) (record {
  places = omega arith;
  crates = omega arith;
  uses = more-push w.uses m;
  items = longer-same w.items;
  variants = omega arith;
  macros = longer-same w.macros;
})) (λ fit. record { maps = fit.maps; locals = fit.locals; tables = fit.tables })

pub new-use : (w : World) (m : ModuleId) → Known (with_use w m) (held.Use (next_use w))
new-use w m = end-among w.uses m

pub goes-macro : (w : World) (m : ModuleId) (l : MacroLoc) → IsFit w → Goes w (with_macro w m l)
goes-macro w m l is = goes-by w (with_macro w m l) is (known-on w (with_macro w m l) (record {
  places = omega arith;
  crates = omega arith;
  uses = omega arith;
  items = longer-same w.items;
  variants = omega arith;
  macros = longer-push w.macros ((m, l) ∷ []);
})) (λ fit. record { maps = fit.maps; locals = fit.locals; tables = fit.tables })

pub new-macro : (w : World) (m : ModuleId) (l : MacroLoc) → Known (with_macro w m l) (held.Macro (macro_id l (length w.macros)))
new-macro w m (loc.Macro2 e) = ap (λ o. option_map_or (λ (y : ModuleId × MacroLoc). is_of_kind (macro_id (loc.Macro2 e) (length w.macros)) y.1) o false) (get-last w.macros (m, loc.Macro2 e))
new-macro w m (loc.MacroRules e) = ap (λ o. option_map_or (λ (y : ModuleId × MacroLoc). is_of_kind (macro_id (loc.MacroRules e) (length w.macros)) y.1) o false) (get-last w.macros (m, loc.MacroRules e))
new-macro w m (loc.Proc k) = ap (λ o. option_map_or (λ (y : ModuleId × MacroLoc). is_of_kind (macro_id (loc.Proc k) (length w.macros)) y.1) o false) (get-last w.macros (m, loc.Proc k))

pub known-item : (w : World) (k : ItemKind) (m : ModuleId) (h : HeldId) → Known w h → Known (with_item w k m) h
known-item w k m = known-on w (with_item w k m) (record {
  places = omega arith;
  crates = omega arith;
  uses = omega arith;
  items = longer-push w.items ((k, m) ∷ []);
  variants = omega arith;
  macros = longer-same w.macros;
})

pub goes-item : (w : World) (k : ItemKind) (m : ModuleId) → IsFit w → Goes w (with_item w k m)
goes-item w k m is = goes-by w (with_item w k m) is (known-item w k m) (λ fit. record { maps = fit.maps; locals = fit.locals; tables = fit.tables })

same_kind-own : (k : ItemKind) → same_kind k k ≡ true
same_kind-own item.Function = refl
same_kind-own item.Struct = refl
same_kind-own item.Union = refl
same_kind-own item.Enum = refl
same_kind-own item.Const = refl
same_kind-own item.Static = refl
same_kind-own item.Trait = refl
same_kind-own item.TypeAlias = refl

pub new-item : (w : World) (k : ItemKind) (m : ModuleId) → Known (with_item w k m) (held.Item k (length w.items))
new-item w k m = ap (λ o. option_map_or (λ (i : ItemKind × ModuleId). same_kind k i.0) o false) (get-last w.items (k, m)) ∙ same_kind-own k

pub goes-variant : (w : World) (e : EnumId) (n : Name) (s : FieldsShape) → IsFit w → Goes w (with_variant w e n s)
goes-variant w e n s is = goes-by w (with_variant w e n s) is (known-on w (with_variant w e n s) (record {
  places = omega arith;
  crates = omega arith;
  uses = omega arith;
  items = longer-same w.items;
  variants = more-push w.variants e;
  macros = longer-same w.macros;
})) (λ fit. record { maps = fit.maps; locals = fit.locals; tables = fit.tables })

pub new-variant : (w : World) (e : EnumId) (n : Name) (s : FieldsShape) → Known (with_variant w e n s) (held.Variant (next_variant w))
new-variant w e n s = end-among w.variants e

-- ---- Extern preludes

known-locals : (w : World) (Ls : List LocalMap) (h : HeldId) → Known w h → Known (record w { local_maps = Ls }) h
known-locals w Ls (held.Module m) k = k
known-locals w Ls (held.Crate c) k = k
known-locals w Ls (held.Use u) k = k
known-locals w Ls (held.Item i n) k = k
known-locals w Ls (held.Variant v) k = k
known-locals w Ls (held.Macro m) k = k

local-put : (P : HeldId → Type 0) (L : LocalMap) (n : Name) (m : ModuleId) (x : Option ExternCrateId) → IsFitLocal P L → P (held.Module m) → IsFitLocal P (with_extern L n m x)
local-put P [] n m x h k = (k, tt)
local-put P (e ∷ es) n m x h k = by (same_name n e.0) (local-put P es n m x h.1 k)
  where
    by : (b : Bool) → IsFitLocal P (with_extern es n m x) → IsFitLocal P (cond b ((e.0, (m, x)) ∷ es) (e ∷ with_extern es n m x))
    by true rest = (k, h.1)
    by false rest = (h.0, rest)

locals-put : (P : HeldId → Type 0) (Ls : List LocalMap) (k : ℕ) (f : LocalMap → LocalMap) → ((L : LocalMap) → IsFitLocal P L → IsFitLocal P (f L)) → AllByRecursion (IsFitLocal P) Ls → AllByRecursion (IsFitLocal P) (locals_with Ls k f)
locals-put P Ls k f step h = by (slice_get Ls k) refl
  where
    by : (o : Option LocalMap) → slice_get Ls k ≡ o → AllByRecursion (IsFitLocal P) (option_map_or (λ L. set Ls k (f L)) o Ls)
    by None e = h
    by (Some L) e = all-set (IsFitLocal P) Ls k (f L) h (step L (all-get (IsFitLocal P) Ls k L h e))

pub goes-extern : (w : World) (k : Crate) (n : Name) (m : ModuleId) (x : Option ExternCrateId) → IsFit w → Known w (held.Module m) → Goes w (with_extern_of w k n m x)
goes-extern w k n m x is known =
    let Ls = locals_with w.local_maps k.0 (λ L. with_extern L n m x) in
    let v = with_extern_of w k n m x in
    goes-by w v is (known-locals w Ls)
    (λ fit. record {
      maps = fit.maps;
      locals = locals-put (Known v) w.local_maps k.0 (λ L. with_extern L n m x) (λ L h. local-put (Known v) L n m x h (known-locals w Ls (held.Module m) known)) fit.locals;
      tables = fit.tables;
    })

-- ---- Tables of items

pub known-tables : (w : World) (t : ItemTables) (h : HeldId) → Known w h → Known (record w { item_tables = t }) h
known-tables w t (held.Module m) k = k
known-tables w t (held.Crate c) k = k
known-tables w t (held.Use u) k = k
known-tables w t (held.Item i n) k = k
known-tables w t (held.Variant v) k = k
known-tables w t (held.Macro m) k = k

module _ (w : World) (is : IsFit w) where
  abbrev fields : List HeldId
  fields = flat_map field_list_holds w.item_tables.fields

  abbrev assocs : List HeldId
  assocs = flat_map assoc_holds w.item_tables.assocs

  abbrev traits : List HeldId
  traits = flat_map trait_holds w.item_tables.traits

  pub goes-fields : (v : VariantId) (xs : List RawVisibility) → Known w (variant_holds v) → KnowsAll w (flat_map raw_holds xs) → Goes w (with_fields w v xs)
  goes-fields v xs one all =
      let u = with_fields w v xs in
      let wider = known-tables w u.item_tables in
      let Q = Known u in
      let put : AllByRecursion Q (flat_map field_list_holds w.item_tables.fields) → AllByRecursion Q (flat_map field_list_holds (insert_entry same_variant w.item_tables.fields v xs)) =
      λ h. entry-put Q field_list_holds same_variant (λ a k x y g i. (g.0, i.1)) w.item_tables.fields v xs h (wider (variant_holds v) one, all-weaker (Known w) Q wider (flat_map raw_holds xs) all) in
      goes-by w u is wider
      (λ fit. record {
        maps = fit.maps;
        locals = fit.locals;
        tables = all-append Q (flat_map field_list_holds (insert_entry same_variant w.item_tables.fields v xs)) (assocs ++ traits)
            (put (all-left Q fields (assocs ++ traits) fit.tables)) (all-right Q fields (assocs ++ traits) fit.tables);
      })

  pub goes-trait : (t : TraitId) (v : RawVisibility) → Known w (held.Item item.Trait t.0) → KnowsAll w (raw_holds v) → Goes w (with_trait_visibility w t v)
  goes-trait t v one all =
      let u = with_trait_visibility w t v in
      let wider = known-tables w u.item_tables in
      let Q = Known u in
      goes-by w u is wider
      (λ fit.
      let rest = all-right Q fields (assocs ++ traits) fit.tables in
      record {
        maps = fit.maps;
        locals = fit.locals;
        tables = all-append Q fields (assocs ++ flat_map trait_holds (insert_entry same_trait w.item_tables.traits t v)) (all-left Q fields (assocs ++ traits) fit.tables)
            (all-append Q assocs (flat_map trait_holds (insert_entry same_trait w.item_tables.traits t v)) (all-left Q assocs traits rest)
            (entry-put Q trait_holds same_trait (λ a k x y g i. (g.0, i.1)) w.item_tables.traits t v (all-right Q assocs traits rest) (wider (held.Item item.Trait t.0) one, all-weaker (Known w) Q wider (raw_holds v) all)));
      })

-- an associated item more
pub assocs-put : (Q : HeldId → Type 0) (t : ItemTables) (a : AssocItemId) (c : ItemContainerId) (v : RawVisibility) → AllByRecursion Q (tables_hold t) → Q (assoc_id_holds a)
    → AllByRecursion Q (container_holds c) → AllByRecursion Q (raw_holds v) → AllByRecursion Q (tables_hold (with_assoc t a c v))
assocs-put Q t a c v all one inside written =
    let fields = flat_map field_list_holds t.fields in
    let old = flat_map assoc_holds t.assocs in
    let new = flat_map assoc_holds (insert_entry same_assoc t.assocs a (c, v)) in
    let traits = flat_map trait_holds t.traits in
    let rest = all-right Q fields (old ++ traits) all in
    all-append Q fields (new ++ traits) (all-left Q fields (old ++ traits) all)
    (all-append Q new traits
    (entry-put Q assoc_holds same_assoc (λ b k x y g i. (g.0, i.1)) t.assocs a (c, v) (all-left Q old traits rest) (one, all-append Q (container_holds c) (raw_holds v) inside written))
    (all-right Q old traits rest))

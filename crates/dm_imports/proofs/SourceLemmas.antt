-- The source of a glob, and what it offers by known slots: both are what they are in def maps.
use Rattle.std.proofs.Common.{◌≡◌, ◌∙◌, ap, cond, refl, subst, sym, true, false, not, true≢false, inl, inr, Bool, List, Option, None, Some}
use Rattle.std.proofs.lemmas.List.Elements.{All-weaker}
use Rattle.std.specs.List.{All}
use Rattle.std.specs.Option.{option_and_then, option_map}
use Rattle.std.specs.Prelude.{is_none, is_some}
use Rattle.dm_base.specs.declared.fields_shape.FieldsShape.{FieldsShape}
use Rattle.dm_base.specs.declared.fields_shape.FieldsShape.TheVariants as shape
use Rattle.dm_base.specs.declared.ids.EnumVariantId.{EnumVariantId}
use Rattle.dm_base.specs.declared.item_ids.ModuleDefId.{ModuleDefId}
use Rattle.dm_base.specs.declared.item_ids.ModuleDefId.TheVariants as def
use Rattle.dm_base.specs.declared.per_ns.Namespace.{Namespace}
use Rattle.dm_base.specs.declared.per_ns.Namespace.TheVariants.{Types, Values, Macros}
use Rattle.dm_base.specs.declared.visibility.Visibility.{Visibility}
use Rattle.dm_base.specs.Names.{Name, find_name}
use Rattle.dm_base.specs.PerNs.{keep}
use Rattle.dm_base.specs.Tree.{sees}
use Rattle.dm_maps.specs.GoesOn.{variants_if_known}
use Rattle.dm_maps.specs.Trees.{tree_of}
use Rattle.dm_maps.specs.World.{scope_of}
use Rattle.dm_scope.specs.Scope.{bound_in}
use Rattle.dm_imports.specs.declared.container.Container.{Container}
use Rattle.dm_imports.specs.declared.container.Container.TheVariants as container
use Rattle.dm_imports.specs.declared.glob_import.GlobImport.{GlobImport}
use Rattle.dm_imports.specs.declared.meaning.Meaning.{Meaning}
use Rattle.dm_imports.specs.declared.rules.grounded.readers.Reader.{Reader}
use Rattle.dm_imports.specs.Following.{IsReader}
use Rattle.dm_imports.specs.Grounded.{SlotSet, is_clear, knowing}
use Rattle.dm_imports.specs.Grounding.{HasSource, IsMore, is_found, known_from}
use Rattle.dm_imports.specs.Meanings.{in_namespace}
use Rattle.dm_imports.specs.Paths.{DefMaps, container_in, leads, marked, path_meaning, seen, variant_in, variant_vis, visible}
use Rattle.dm_imports.specs.Rules.{glob_asks, is_other, offer_from, offered, source_of}
use Rattle.dm_imports.proofs.ClearLemmas.{clearer-refl, path-same}

none≢some : {X : Type 0} {x : X} → ◌≡◌ {A = Option X} None (Some x) → ⊥
none≢some e = absurd (true≢false (sym (ap is_some e)))

-- what a glob's path leads to by known slots it leads to by more
pub source-more : (d : DefMaps) (k l : SlotSet) → IsMore k l → (g : GlobImport) (c : Container) → source_of (knowing d k) g ≡ Some c → source_of (knowing d l) g ≡ Some c
source-more d k l more g c h = from (path (knowing d k)) refl h
  where
    path : DefMaps → Option Meaning
    path v = path_meaning v (glob_asks g) None g.path Types

    led : Option Meaning → Option Container
    led o = keep (is_other g.into) (option_and_then leads o)

    clear : is_clear (path (knowing d k)) ≡ true → source_of (knowing d l) g ≡ Some c
    clear e = ap led (path-same d k l more g.into None (λ m n s. None) (λ m n s. None) (λ m n s. clearer-refl None) None g.path Types e) ∙ h

    at : (x : Meaning) (b : Bool) → path (knowing d k) ≡ Some x → x.is_ambiguous ≡ b → keep (is_other g.into) (cond b None (container_in x.def)) ≡ Some c → source_of (knowing d l) g ≡ Some c
    at x true e i j = absurd (none≢some j)
    at x false e i j = clear (ap is_clear e ∙ ap not i)

    from : (o : Option Meaning) → path (knowing d k) ≡ o → led o ≡ Some c → source_of (knowing d l) g ≡ Some c
    from None e i = absurd (none≢some i)
    from (Some x) e i = at x x.is_ambiguous e refl i

not-not : (b : Bool) → not (not b) ≡ b
not-not true = refl
not-not false = refl

-- def maps are themselves, as one sees them who knows all slots but the ambiguous ones
own-slots : (d : DefMaps) → knowing d (λ m n s. not (d.is_ambiguous m n s)) ≡ d
own-slots d = λ i. record d { is_ambiguous = λ m n s. not-not (d.is_ambiguous m n s) i }

-- so both sources are one
pub sources-same : (d : DefMaps) (k : SlotSet) (g : GlobImport) (p c : Container) → source_of d g ≡ Some p → source_of (knowing d k) g ≡ Some c → p ≡ c
sources-same d k g p c own known =
    let all : SlotSet = λ m n s. true in
    let one = source-more d (λ m n s. not (d.is_ambiguous m n s)) all (λ m n s h. refl) g p (ap (λ (v : DefMaps). source_of v g) (own-slots d) ∙ own) in
    let two = source-more d k all (λ m n s h. refl) g c known in
    some-same p c (sym one ∙ two)
  where
    some-same : (x y : Container) → Some x ≡ Some y → x ≡ y
    some-same x y e = cc

-- the source of a glob whose path leads to something by known slots
pub has-source : (d : DefMaps) (k : SlotSet) (g : GlobImport) → is_none (source_of (knowing d k) g) ≡ false → HasSource d k g (source_of d g)
has-source d k g some = by (source_of d g) (source_of (knowing d k) g) refl refl some
  where
    by : (o p : Option Container) → source_of d g ≡ o → source_of (knowing d k) g ≡ p → is_none p ≡ false → HasSource d k g o
    by None p e f h = inl e
    by (Some c) None e f h = absurd (true≢false h)
    by (Some c) (Some v) e f h = (e, f ∙ ap (λ (x : Container). Some x) (sym (sources-same d k g c v e f)))

-- and by more of them
pub reader-more : (d : DefMaps) (k l : SlotSet) → IsMore k l → (r : Reader) → IsReader d k r → IsReader d l r
reader-more d k l more r h = record { listed = h.listed; source = (h.source.0, source-more d k l more r.glob.now r.source h.source.1) }

pub readers-more : (d : DefMaps) (k l : SlotSet) → IsMore k l → (rs : List Reader) → All (IsReader d k) rs → All (IsReader d l) rs
readers-more d k l more rs = All-weaker (IsReader d k) (IsReader d l) (reader-more d k l more) rs

-- ---- What a glob offers of its source by known slots

module _ (d : DefMaps) (k : SlotSet) (g : GlobImport) where
  if-none : (b : Bool) → ◌≡◌ {A = Option Meaning} None (cond b None None)
  if-none true = refl
  if-none false = refl

  variant-clear : (s : Namespace) (f : FieldsShape) (v : ModuleDefId) (vis : Visibility) → is_clear (variant_in s f v vis) ≡ is_some (variant_in s f v vis)
  variant-clear Types f v vis = refl
  variant-clear Values shape.Record v vis = refl
  variant-clear Values shape.Tuple v vis = refl
  variant-clear Values shape.Unit v vis = refl
  variant-clear Macros f v vis = refl

  abbrev of_variant : Option Meaning → Option Meaning
  of_variant o = option_map (offered d g) (visible d (glob_asks g) o)

  when-clear : (o : Option Meaning) → is_clear o ≡ is_some o → cond (is_clear (of_variant o)) (of_variant o) None ≡ of_variant o
  when-clear None h = refl
  when-clear (Some x) h = by (sees (tree_of d.world) x.vis g.into)
    where
      by : (b : Bool) → cond (is_clear (option_map (offered d g) (cond b (Some x) None))) (option_map (offered d g) (cond b (Some x) None)) None ≡ option_map (offered d g) (cond b (Some x) None)
      by true = ap (λ b. cond b (Some (offered d g x)) None) h
      by false = refl

  of-enum : (o : Option (EnumVariantId × FieldsShape)) (s : Namespace) (vis : EnumVariantId → Visibility)
      → is_clear (option_and_then (λ v. variant_in s v.1 (def.EnumVariantId v.0) (vis v.0)) o)
      ≡ is_some (option_and_then (λ v. variant_in s v.1 (def.EnumVariantId v.0) (vis v.0)) o)
  of-enum None s vis = refl
  of-enum (Some v) s vis = variant-clear s v.1 (def.EnumVariantId v.0) (vis v.0)

  -- it is what the glob offers in def maps, where the slot is known
  pub known-once : (c : Container) (n : Name) (s : Namespace) → cond (is_clear (offer_from (knowing d k) g c n s)) (offer_from d g c n s) None ≡ known_from d k g c n s
  known-once (container.Module m) n s = by (in_namespace s (bound_in (scope_of d.world m) n))
    where
      of : DefMaps → Bool → Option Meaning → Option Meaning
      of v b o = option_map (offered v g) (option_and_then (seen v (glob_asks g) m n s) (option_map (marked b) o))

      via : (x : Meaning) (p q a : Bool)
          → cond (is_clear (option_map (offered (knowing d k) g) (cond p (Some (marked (not q) x)) None))) (option_map (offered d g) (cond p (Some (marked a x)) None)) None
          ≡ cond q (option_map (offered d g) (cond p (Some (marked a x)) None)) None
      via x true true a = refl
      via x true false a = refl
      via x false true a = refl
      via x false false a = refl

      by : (o : Option Meaning) → cond (is_clear (of (knowing d k) (not (k m n s)) o)) (of d (d.is_ambiguous m n s) o) None ≡ cond (k m n s) (of d (d.is_ambiguous m n s) o) None
      by None = if-none (k m n s)
      by (Some x) = via x (sees (tree_of d.world) x.vis g.into) (k m n s) (d.is_ambiguous m n s)
  known-once (container.Enum e) n s =
      when-clear (option_and_then (λ v. variant_in s v.1 (def.EnumVariantId v.0) (variant_vis d e s v.0)) (option_and_then (find_name n) (variants_if_known d.world e)))
      (of-enum (option_and_then (find_name n) (variants_if_known d.world e)) s (variant_vis d e s))

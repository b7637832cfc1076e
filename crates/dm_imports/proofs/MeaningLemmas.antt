-- Meanings: when two are one, and which modules their visibilities name.
use Rattle.std.proofs.Common.{◌≡◌, refl, subst, true, Bool, Option, None, Some}
use Rattle.std.proofs.lemmas.Bool.{and_parts}
use Rattle.std.specs.Cmp.{booleans_Decides}
use Rattle.std.specs.Option.{option_eq, option_map}
use Rattle.dm_base.specs.contracts.value_eq.ModuleDefIdValueEq.TheImpl.Laws as def_value
use Rattle.dm_base.specs.contracts.value_eq.VisibilityValueEq.TheImpl.Laws as visibility_value
use Rattle.dm_base.specs.declared.imports.ImportOrExternCrate.{ImportOrExternCrate}
use Rattle.dm_base.specs.declared.imports.ImportOrGlob.{ImportOrGlob}
use Rattle.dm_base.specs.declared.item_ids.MacroId.{MacroId}
use Rattle.dm_base.specs.declared.item_ids.ModuleDefId.{ModuleDefId}
use Rattle.dm_base.specs.declared.per_ns.Item.{Item}
use Rattle.dm_base.specs.declared.per_ns.Namespace.{Namespace}
use Rattle.dm_base.specs.declared.per_ns.Namespace.TheVariants.{Types, Values, Macros}
use Rattle.dm_base.specs.declared.per_ns.PerNs.{PerNs}
use Rattle.dm_base.specs.Sameness.{options_same}
use Rattle.dm_base.specs.Visibility.{NamesKnown}
use Rattle.dm_maps.specs.Holding.{res_holds}
use Rattle.dm_maps.specs.Known.{KnowsAll}
use Rattle.dm_maps.specs.KnownLaws.{macro_vis-known, type_vis-known, value_vis-known}
use Rattle.dm_maps.specs.Trees.{tree_of}
use Rattle.dm_maps.specs.World.{World}
use Rattle.dm_imports.specs.contracts.meaning.MeaningEq.TheImpl.Laws.{laws-law}
use Rattle.dm_imports.specs.contracts.meaning.MeaningPartialEq.TheImpl as meaning_eq
use Rattle.dm_imports.specs.contracts.meaning.SourceValueEq.TheImpl.Laws as source_value
use Rattle.dm_imports.specs.declared.meaning.Meaning.{Meaning}
use Rattle.dm_imports.specs.Meanings.{IsNamed, in_namespace, macro_meaning, type_meaning, value_meaning}
use Rattle.dm_imports.specs.Paths.{marked}

pub meaning-same : (x y : Meaning) → meaning_eq.ghosts.eq x y ≡ true → x ≡ y
meaning-same x y e =
    let p = and_parts _ _ e in
    let q = and_parts _ _ p.1 in
    let r = and_parts _ _ q.1 in
    λ i. record {
      def = def_value.same-law x.def y.def p.0 i;
      vis = visibility_value.same-law x.vis y.vis q.0 i;
      source = source_value.same-law x.source y.source r.0 i;
      is_ambiguous = (booleans_Decides x.is_ambiguous y.is_ambiguous).0 r.1 i;
    }

pub meanings-same : (x y : Option Meaning) → option_eq meaning_eq.ghosts.eq x y ≡ true → x ≡ y
meanings-same x y e = options_same meaning-same x y e

pub meanings-refl : (x : Option Meaning) → option_eq meaning_eq.ghosts.eq x x ≡ true
meanings-refl None = refl
meanings-refl (Some x) = laws-law.refl x

module _ (w : World) (x : PerNs) (k : KnowsAll w (res_holds x)) where
  type-named : (o : Option (Item ModuleDefId ImportOrExternCrate)) → x.types ≡ o → (m : Meaning) → in_namespace Types (record x { types = o }) ≡ Some m → NamesKnown (tree_of w) m.vis
  type-named None e m is = cc
  type-named (Some i) e m is = let same : type_meaning i ≡ m = cc in subst (λ (y : Meaning). NamesKnown (tree_of w) y.vis) same (type_vis-known w x k i e)

  value-named : (o : Option (Item ModuleDefId ImportOrGlob)) → x.values ≡ o → (m : Meaning) → in_namespace Values (record x { values = o }) ≡ Some m → NamesKnown (tree_of w) m.vis
  value-named None e m is = cc
  value-named (Some i) e m is = let same : value_meaning i ≡ m = cc in subst (λ (y : Meaning). NamesKnown (tree_of w) y.vis) same (value_vis-known w x k i e)

  macro-named : (o : Option (Item MacroId ImportOrExternCrate)) → x.macros ≡ o → (m : Meaning) → in_namespace Macros (record x { macros = o }) ≡ Some m → NamesKnown (tree_of w) m.vis
  macro-named None e m is = cc
  macro-named (Some i) e m is = let same : macro_meaning i ≡ m = cc in subst (λ (y : Meaning). NamesKnown (tree_of w) y.vis) same (macro_vis-known w x k i e)

  -- what known items have in a namespace is named
  pub namespace-named : (s : Namespace) → IsNamed w (in_namespace s x)
  namespace-named Types m is = type-named x.types refl m is
  namespace-named Values m is = value-named x.values refl m is
  namespace-named Macros m is = macro-named x.macros refl m is

-- so is what is marked
pub marked-named : (w : World) (b : Bool) (o : Option Meaning) → IsNamed w o → IsNamed w (option_map (marked b) o)
marked-named w b None h m is = cc
marked-named w b (Some x) h m is = let same : marked b x ≡ m = cc in subst (λ (y : Meaning). NamesKnown (tree_of w) y.vis) same (h x refl)

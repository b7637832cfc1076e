-- Layers that have types alone, or macros alone, lie below what is found without a trace where that has such an item.
use Rattle.std.proofs.Common.{◌≡◌, ◌∙◌, Bool, true, false, cond, List, [], ◌∷◌, Option, None, Some, ap, is_some, refl, sym, true≢false}
use Rattle.std.specs.Option.{option_map_or, option_or}
use Rattle.dm_base.specs.declared.builtin_type.BuiltinType.{BuiltinType}
use Rattle.dm_base.specs.declared.ids.ExternCrateId.{ExternCrateId}
use Rattle.dm_base.specs.declared.ids.MapId.{MapId}
use Rattle.dm_base.specs.declared.ids.ModuleId.{ModuleId}
use Rattle.dm_base.specs.declared.item_ids.MacroId.{MacroId}
use Rattle.dm_base.specs.declared.item_ids.ModuleDefId.TheVariants as def
use Rattle.dm_base.specs.declared.imports.ImportOrExternCrate.{ImportOrExternCrate}
use Rattle.dm_base.specs.declared.imports.ImportOrGlob.{ImportOrGlob}
use Rattle.dm_base.specs.declared.item_ids.ModuleDefId.{ModuleDefId}
use Rattle.dm_base.specs.declared.per_ns.Item.{Item}
use Rattle.dm_base.specs.declared.per_ns.PerNs.{PerNs}
use Rattle.dm_base.specs.declared.mod_path.PathKind.{PathKind}
use Rattle.dm_base.specs.declared.mod_path.PathKind.TheVariants as kind
use Rattle.dm_base.specs.declared.visibility.Visibility.TheVariants.{Public}
use Rattle.dm_base.specs.PerNs.{is_full, macro_alone, nothing, over, overlay, type_alone}
use Rattle.dm_base.specs.Overlays.{option_or_none, over_associative, over_nothing}
use Rattle.dm_def_map.specs.declared.modules.modes.MacroSubNs.{MacroSubNs}
use Rattle.dm_maps.specs.declared.rules.Rules.{Rules}
use Rattle.dm_maps.specs.declared.rules.Rules.TheVariants.{V1, V2}
use Rattle.dm_maps.specs.Readings.{Setting, Reading}
use Rattle.hir_def_map.specs.declared.path_resolution.place.Place.{Place}
use Rattle.hir_def_map.specs.declared.path_resolution.question.Ask.{Ask}
use Rattle.hir_def_map.specs.Paths.{builtin, builtins_of, by_2015_rule, by_crate, extern_prelude, fitting, layers, layers_by_2015_rule, plain_layers, macro_use_prelude, of_prelude, unless_block_root}

-- items of which none is a value or a macro, and items of which none is a type or a value
pub record AreTypes (x : PerNs) : Type 0 where
  pub values : x.values ≡ None
  pub macros : x.macros ≡ None

pub record AreMacros (x : PerNs) : Type 0 where
  pub types : x.types ≡ None
  pub values : x.values ≡ None

first : {A : Type 0} (a b : Option A) → is_some a ≡ true → option_or a b ≡ a
first None b there = absurd (true≢false (sym there))
first (Some x) b there = refl

alone : {A : Type 0} (a b : Option A) → b ≡ None → option_or a b ≡ a
alone a b none = ap (option_or a) none ∙ option_or_none a

pub over-types : (x y : PerNs) → is_some x.types ≡ true → AreTypes y → over x y ≡ x
over-types x y there are = λ i. record { types = first x.types y.types there i; values = alone x.values y.values are.values i; macros = alone x.macros y.macros are.macros i }

pub over-macros : (x y : PerNs) → is_some x.macros ≡ true → AreMacros y → over x y ≡ x
over-macros x y there are = λ i. record { types = alone x.types y.types are.types i; values = alone x.values y.values are.values i; macros = first x.macros y.macros there i }

pub over-full : (x y : PerNs) → is_full x ≡ true → over x y ≡ x
over-full x y = by x.types x.values x.macros
  where
    by : (t : Option (Item ModuleDefId ImportOrExternCrate)) (v : Option (Item ModuleDefId ImportOrGlob)) (m : Option (Item MacroId ImportOrExternCrate)) → let z : PerNs = record { types = t; values = v; macros = m } in is_full z ≡ true → over z y ≡ z
    by None v m full = absurd (true≢false (sym full))
    by (Some t) None m full = absurd (true≢false (sym full))
    by (Some t) (Some v) None full = absurd (true≢false (sym full))
    by (Some t) (Some v) (Some m) full = refl

-- ---- The layers.

unless : (b : Bool) (x : PerNs) → AreTypes x → AreTypes (cond b nothing x)
unless true x are = record { values = refl; macros = refl }
unless false x are = are

pub builtins-are : (w : Setting) (m : ModuleId) (s : Reading) → AreTypes (builtins_of w m s)
builtins-are w m s = unless _ (builtin s) (by s.builtin)
  where
    by : (o : Option BuiltinType) → AreTypes (option_map_or (λ b. type_alone (def.BuiltinType b) Public None) o nothing)
    by None = record { values = refl; macros = refl }
    by (Some b) = record { values = refl; macros = refl }

pub extern-alone : (s : Reading) → AreTypes (extern_prelude s)
extern-alone s = by s.extern
  where
    by : (o : Option (ModuleId × Option ExternCrateId)) → AreTypes (option_map_or (λ e. type_alone (def.ModuleId e.0) Public (by_crate e.1)) o nothing)
    by None = record { values = refl; macros = refl }
    by (Some e) = record { values = refl; macros = refl }

pub extern-is : (w : Setting) (m : ModuleId) (s : Reading) → AreTypes (unless_block_root w m (extern_prelude s))
extern-is w m s = unless _ (extern_prelude s) (extern-alone s)

pub macro_use-is : (w : Setting) (e : Option MacroSubNs) (id : MapId) (s : Reading) → AreMacros (of_prelude w e (macro_use_prelude id s))
macro_use-is w e id s = by w.rules (macro_use_prelude id s) (of (s.macro_use id))
  where
    of : (o : Option (MacroId × Option ExternCrateId)) → AreMacros (option_map_or (λ x. macro_alone x.0 Public (by_crate x.1)) o nothing)
    of None = record { types = refl; values = refl }
    of (Some x) = record { types = refl; values = refl }

    by : (r : Rules) (x : PerNs) → AreMacros x → AreMacros (elim r [ V1 ↦ x | V2 ↦ fitting w e x ])
    by V1 x are = are
    by V2 x are = record { types = are.types; values = are.values }

-- ---- One layer over another, and so on, is all of them laid over one another.

pub laid-3 : (a b c : PerNs) → over (over a b) c ≡ overlay (a ∷ b ∷ c ∷ [])
laid-3 a b c = over_associative a b c ∙ ap (λ x. over a (over b x)) (sym (over_nothing c))

pub laid-6 : (a b c d e f : PerNs) → over (over (over (over (over a b) c) d) e) f ≡ overlay (a ∷ b ∷ c ∷ d ∷ e ∷ f ∷ [])
laid-6 a b c d e f =
    over_associative (over (over (over a b) c) d) e f
    ∙ over_associative (over (over a b) c) d (over e f)
    ∙ over_associative (over a b) c (over d (over e f))
    ∙ over_associative a b (over c (over d (over e f)))
    ∙ ap (λ x. over a (over b (over c (over d (over e x))))) (sym (over_nothing f))

-- after `::`, where the 2015 rule does not hold, the extern prelude is the one layer
pub layers-abs : (w : Setting) (q : Ask) (p : Place) (s : Reading) (is_last : Bool) → by_2015_rule w q p ≡ false → q.kind ≡ kind.Abs → layers w q p s is_last ≡ extern_prelude s ∷ []
layers-abs w q p s is_last unruled is = ap (λ r. cond r (layers_by_2015_rule w p s) (by q.kind)) unruled ∙ ap by is
  where
    by : PathKind → List PerNs
    by k = elim k [ kind.Abs ↦ extern_prelude s ∷ [] | _ ↦ plain_layers w q p s is_last ]

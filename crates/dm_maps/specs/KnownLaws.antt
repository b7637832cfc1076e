-- Lists of ids that a world knows: what follows for their parts, and for the parts of known items. Crates above cite it.
use Rattle.std.specs.Prelude.{◌≡◌, List, [], ◌∷◌, ◌++◌, Option, Some}
use Rattle.std.proofs.Common.{subst}
use Rattle.std.specs.Option.{option_map_or}
use Rattle.dm_base.specs.declared.imports.ImportOrExternCrate.{ImportOrExternCrate}
use Rattle.dm_base.specs.declared.imports.ImportOrGlob.{ImportOrGlob}
use Rattle.dm_base.specs.declared.ids.ModuleId.{ModuleId}
use Rattle.dm_base.specs.declared.item_ids.ModuleDefId.{ModuleDefId}
use Rattle.dm_base.specs.declared.item_ids.ModuleDefId.TheVariants as def
use Rattle.dm_base.specs.declared.item_ids.MacroId.{MacroId}
use Rattle.dm_base.specs.declared.per_ns.Item.{Item}
use Rattle.dm_base.specs.declared.per_ns.PerNs.{PerNs}
use Rattle.dm_base.specs.declared.visibility.Visibility.{Visibility}
use Rattle.dm_base.specs.declared.visibility.Visibility.TheVariants.{Module, PubCrate, Public}
use Rattle.dm_base.specs.Tree.{IsKnown}
use Rattle.dm_base.specs.Visibility.{NamesKnown}
use Rattle.dm_maps.specs.declared.check.held.HeldId.{HeldId}
use Rattle.dm_maps.specs.declared.check.held.HeldId.TheVariants as held
use Rattle.dm_maps.specs.Holding.{def_holds, vis_holds, import_holds, value_import_holds, type_holds, value_holds, macro_holds, res_holds}
use Rattle.dm_maps.specs.Known.{KnowsAll}
use Rattle.dm_maps.specs.Trees.{tree_of}
use Rattle.dm_maps.specs.World.{World}

pub knows-left : (w : World) (hs ks : List HeldId) → KnowsAll w (hs ++ ks) → KnowsAll w hs
knows-left w [] ks k = tt
knows-left w (h ∷ hs) ks k = (k.0, knows-left w hs ks k.1)

pub knows-right : (w : World) (hs ks : List HeldId) → KnowsAll w (hs ++ ks) → KnowsAll w ks
knows-right w [] ks k = k
knows-right w (h ∷ hs) ks k = knows-right w hs ks k.1

pub knows-append : (w : World) (hs ks : List HeldId) → KnowsAll w hs → KnowsAll w ks → KnowsAll w (hs ++ ks)
knows-append w [] ks k l = l
knows-append w (h ∷ hs) ks k l = (k.0, knows-append w hs ks k.1 l)

-- the module that a known visibility names is the tree's
pub vis_known : (w : World) (v : Visibility) → KnowsAll w (vis_holds v) → NamesKnown (tree_of w) v
unfolding tree_of
vis_known w (Module m e) k = k.0
vis_known w (PubCrate c) k = tt
vis_known w Public k = tt

-- the middle part of three
pub knows-middle : (w : World) (hs ks ls : List HeldId) → KnowsAll w (hs ++ ks ++ ls) → KnowsAll w ks
knows-middle w hs ks ls k = knows-right w hs ks (knows-left w (hs ++ ks) ls k)

module _ (w : World) (x : PerNs) (k : KnowsAll w (res_holds x)) where
  pub types-known : KnowsAll w (option_map_or type_holds x.types [])
  types-known = knows-left w (option_map_or type_holds x.types []) (option_map_or value_holds x.values []) (knows-left w (option_map_or type_holds x.types [] ++ option_map_or value_holds x.values []) (option_map_or macro_holds x.macros []) k)

  pub values-known : KnowsAll w (option_map_or value_holds x.values [])
  values-known = knows-middle w (option_map_or type_holds x.types []) (option_map_or value_holds x.values []) (option_map_or macro_holds x.macros []) k

  pub macros-known : KnowsAll w (option_map_or macro_holds x.macros [])
  macros-known = knows-right w (option_map_or type_holds x.types [] ++ option_map_or value_holds x.values []) (option_map_or macro_holds x.macros []) k

  pub type_vis-known : (i : Item ModuleDefId ImportOrExternCrate) → x.types ≡ Some i → NamesKnown (tree_of w) i.vis
  type_vis-known i e =
      let P : Option (Item ModuleDefId ImportOrExternCrate) → Type 0 = λ o. KnowsAll w (option_map_or type_holds o []) in
      vis_known w i.vis (knows-middle w (def_holds i.def) (vis_holds i.vis) (option_map_or import_holds i.import []) (subst P e types-known))

  pub type_def-known : (i : Item ModuleDefId ImportOrExternCrate) → x.types ≡ Some i → KnowsAll w (def_holds i.def)
  type_def-known i e =
      let P : Option (Item ModuleDefId ImportOrExternCrate) → Type 0 = λ o. KnowsAll w (option_map_or type_holds o []) in
      knows-left w (def_holds i.def) (vis_holds i.vis) (knows-left w (def_holds i.def ++ vis_holds i.vis) (option_map_or import_holds i.import []) (subst P e types-known))

  -- a module that is a known type is the tree's
  pub type_module-known : (i : Item ModuleDefId ImportOrExternCrate) (m : ModuleId) → x.types ≡ Some i → i.def ≡ def.ModuleId m → IsKnown (tree_of w) m
  unfolding tree_of
  type_module-known i m e is = let P : ModuleDefId → Type 0 = λ d. KnowsAll w (def_holds d) in (subst P is (type_def-known i e)).0

  pub value_vis-known : (i : Item ModuleDefId ImportOrGlob) → x.values ≡ Some i → NamesKnown (tree_of w) i.vis
  value_vis-known i e =
      let P : Option (Item ModuleDefId ImportOrGlob) → Type 0 = λ o. KnowsAll w (option_map_or value_holds o []) in
      vis_known w i.vis (knows-middle w (def_holds i.def) (vis_holds i.vis) (option_map_or value_import_holds i.import []) (subst P e values-known))

  pub macro_vis-known : (i : Item MacroId ImportOrExternCrate) → x.macros ≡ Some i → NamesKnown (tree_of w) i.vis
  macro_vis-known i e =
      let P : Option (Item MacroId ImportOrExternCrate) → Type 0 = λ o. KnowsAll w (option_map_or macro_holds o []) in
      vis_known w i.vis (knows-middle w (held.Macro i.def ∷ []) (vis_holds i.vis) (option_map_or import_holds i.import []) (subst P e macros-known))

-- The ids in parts of known items are known to the world.
use Rattle.std.proofs.Common.{◌≡◌, Bool, true, false, [], Some, None, ap}
use Rattle.dm_base.specs.declared.imports.ImportOrExternCrate.{ImportOrExternCrate}
use Rattle.dm_base.specs.declared.ids.ModuleId.{ModuleId}
use Rattle.dm_base.specs.declared.item_ids.ModuleDefId.{ModuleDefId}
use Rattle.dm_base.specs.declared.item_ids.ModuleDefId.TheVariants as def
use Rattle.dm_base.specs.declared.per_ns.Item.{Item}
use Rattle.dm_base.specs.declared.per_ns.PerNs.{PerNs}
use Rattle.dm_base.specs.declared.visibility.Visibility.TheVariants.{Public}
use Rattle.dm_base.specs.PerNs.{type_alone}
use Rattle.dm_base.specs.Tree.{IsKnown}
use Rattle.dm_maps.specs.Known.{KnowsAll}
use Rattle.dm_maps.specs.KnownLaws.{knows-append, types-known, type_module-known}
use Rattle.dm_maps.specs.Holding.{res_holds}
use Rattle.dm_maps.specs.Trees.{tree_of}
use Rattle.dm_maps.specs.World.{World}
use Rattle.hir_def_map.specs.declared.path_resolution.result.ResolvePathResult.{ResolvePathResult}
use Rattle.hir_def_map.specs.Walk.{crossed, in_types}
use Rattle.hir_def_map.specs.Paths.{module_in}

-- a definition that is taken for a module is one
module_in-is : (d : ModuleDefId) (m : ModuleId) → module_in d ≡ Some m → d ≡ def.ModuleId m
module_in-is (def.ModuleId k) m e = let same : k ≡ m = cc in ap def.ModuleId same
module_in-is _ m e = cc

pub module_in-known : (w : World) (x : PerNs) → KnowsAll w (res_holds x) → (i : Item ModuleDefId ImportOrExternCrate) (m : ModuleId) → x.types ≡ Some i → module_in i.def ≡ Some m → IsKnown (tree_of w) m
module_in-known w x k i m e is = type_module-known w x k i m e (module_in-is i.def m is)

-- the type of known items is known
pub in_types-known : (w : World) (x : PerNs) → KnowsAll w (res_holds x) → KnowsAll w (res_holds (in_types x.types))
in_types-known w x k = knows-append w _ [] (knows-append w _ [] (types-known w x k) tt) tt

-- a module of the tree is known
pub root-known : (w : World) (m : ModuleId) → IsKnown (tree_of w) m → KnowsAll w (res_holds (type_alone (def.ModuleId m) Public None))
unfolding tree_of
root-known w m k = (k, tt)

-- an answer from another crate holds what the answer held
pub crossed-known : (w : World) (d : Bool) (a : ResolvePathResult) → KnowsAll w (res_holds a.resolved_def) → KnowsAll w (res_holds (crossed d a).resolved_def)
crossed-known w false a k = k
crossed-known w true a k = k

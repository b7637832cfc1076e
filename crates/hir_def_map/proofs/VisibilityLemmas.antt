-- The modules and crates that raw visibilities resolve to are the world's.
use Rattle.std.proofs.Common.{◌≡◌, ◌||◌, ℕ, Bool, true, false, cond, IsTrue, Option, Some, None, length, refl, subst}
use Rattle.std.specs.Option.{ForSome, option_map}
use Rattle.std.proofs.lemmas.Bool.{lt-ltb}
use Rattle.std.proofs.lemmas.Option.{slice_get_within}
use Rattle.dm_base.specs.declared.ids.ModuleId.{ModuleId}
use Rattle.dm_base.specs.declared.imports.ImportOrExternCrate.{ImportOrExternCrate}
use Rattle.dm_base.specs.declared.item_ids.ModuleDefId.{ModuleDefId}
use Rattle.dm_base.specs.declared.per_ns.Item.{Item}
use Rattle.dm_base.specs.declared.per_ns.PerNs.{PerNs}
use Rattle.dm_base.specs.declared.visibility.Visibility.TheVariants.{Module}
use Rattle.dm_base.specs.declared.visibility.VisibilityExplicitness.{VisibilityExplicitness}
use Rattle.dm_base.specs.Tree.{IsKnown, same_block}
use Rattle.dm_maps.specs.declared.check.held.HeldId.TheVariants as held
use Rattle.dm_maps.specs.Holding.{res_holds}
use Rattle.dm_maps.specs.Family.{common}
use Rattle.dm_maps.specs.Known.{KnowsAll, knows}
use Rattle.dm_maps.specs.Trees.{tree_of}
use Rattle.dm_maps.specs.World.{World, crate_map}
use Rattle.dm_def_map.specs.Maps.{Map}
use Rattle.hir_def_map.specs.RawVisibilities.{IsOfWorld, module_reached, block_in, restricted}
use Rattle.hir_def_map.specs.Paths.{type_module}
use Rattle.hir_def_map.proofs.KnownLemmas.{module_in-known}

-- a module that known items lead to is known
pub reached-known : (w : World) (x : PerNs) (left : Option ℕ) (m : ModuleId) → KnowsAll w (res_holds x) → module_reached x left ≡ Some m → IsKnown (tree_of w) m
reached-known w x (Some i) m k e = cc
reached-known w x None m k e = by x.types refl e
  where
    by : (o : Option (Item ModuleDefId ImportOrExternCrate)) → x.types ≡ o → type_module o ≡ Some m → IsKnown (tree_of w) m
    by None is h = cc
    by (Some i) is h = module_in-known w x k i m is h

-- so is the one that replaces it in a map whose root is known
pub restricted-known : (w : World) (M : Map) (within : Bool) (t : ModuleId) → IsKnown (tree_of w) t → IsKnown (tree_of w) M.root → IsKnown (tree_of w) (restricted w M within t)
restricted-known w M within t known root = by (within || same_block (block_in w t) M.id.block)
  where
    by : (b : Bool) → IsKnown (tree_of w) (cond b t M.root)
    by true = known
    by false = root

pub module-known : (w : World) (m : ModuleId) (e : VisibilityExplicitness) → IsKnown (tree_of w) m → ForSome (Some (Module m e)) (IsOfWorld w)
unfolding tree_of
module-known w m e k v is = let same : Module m e ≡ v = cc in subst (IsOfWorld w) same (record { names = k; held = (k, tt) })

-- the crate of a map is the world's
pub crate-known : (w : World) (M : Map) → option_map common (crate_map w M.id.krate) ≡ Some (common M) → IsTrue (knows w (held.Crate M.id.krate))
crate-known w M shared = by (crate_map w M.id.krate) refl shared
  where
    by : (o : Option Map) → crate_map w M.id.krate ≡ o → option_map common o ≡ Some (common M) → IsTrue (knows w (held.Crate M.id.krate))
    by None is h = cc
    by (Some K) is h = lt-ltb M.id.krate.0 (length w.crate_maps) (slice_get_within w.crate_maps M.id.krate.0 K is)

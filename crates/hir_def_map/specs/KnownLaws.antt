-- The ids in parts of known items are known to the world.
use Rattle.std.proofs.Common.{◌≡◌, Bool, true, false, cond, List, [], ◌∷◌, ◌++◌, Option, Some, None, subst}
use Rattle.std.specs.Option.{option_map_or, option_or}
use Rattle.dm_base.specs.declared.imports.ImportOrExternCrate.{ImportOrExternCrate}
use Rattle.dm_base.specs.declared.ids.ModuleId.{ModuleId}
use Rattle.dm_base.specs.declared.item_ids.ModuleDefId.TheVariants as def
use Rattle.dm_base.specs.declared.item_ids.MacroId.{MacroId}
use Rattle.dm_base.specs.declared.per_ns.Item.{Item}
use Rattle.dm_base.specs.declared.per_ns.PerNs.{PerNs}
use Rattle.dm_base.specs.declared.visibility.Visibility.{Visibility}
use Rattle.dm_base.specs.declared.visibility.Visibility.TheVariants.{Public}
use Rattle.dm_base.specs.declared.ids.ExternCrateId.{ExternCrateId}
use Rattle.dm_base.specs.PerNs.{keep, seen_by, over, type_alone}
use Rattle.dm_base.specs.Names.{Name, find_name, same_name}
use Rattle.dm_maps.specs.declared.check.held.HeldId.{HeldId}
use Rattle.dm_maps.specs.declared.check.held.HeldId.TheVariants as held
use Rattle.dm_maps.specs.Known.{KnowsAll}
use Rattle.dm_maps.specs.KnownLaws.{knows-left, knows-append, types-known, values-known, macros-known}
use Rattle.dm_maps.specs.Holding.{type_holds, value_holds, macro_holds, res_holds, local_holds}
use Rattle.dm_def_map.specs.Maps.{LocalMap}
use Rattle.dm_maps.specs.World.{World}
use Rattle.hir_def_map.specs.Paths.{by_crate}

kept-known : (w : World) {A : Type 0} (holds : A → List HeldId) (p : A → Bool) (o : Option A) → KnowsAll w (option_map_or holds o []) → KnowsAll w (option_map_or holds (keep p o) [])
kept-known w holds p None k = tt
kept-known w {A} holds p (Some x) k = by (p x)
  where
    by : (b : Bool) → KnowsAll w (option_map_or holds (cond b (Some x) None) [])
    by true = k
    by false = tt

-- what is kept of known items is known
pub seen_by-known : (w : World) (p : Visibility → Bool) (x : PerNs) → KnowsAll w (res_holds x) → KnowsAll w (res_holds (seen_by p x))
seen_by-known w p x k =
    knows-append w _ _
    (knows-append w _ _ (kept-known w type_holds (λ i. p i.vis) x.types (types-known w x k)) (kept-known w value_holds (λ i. p i.vis) x.values (values-known w x k)))
    (kept-known w macro_holds (λ i. p i.vis) x.macros (macros-known w x k))

-- items but for a macro that does not pass are known
pub macros_kept-known : (w : World) (p : Item MacroId ImportOrExternCrate → Bool) (x : PerNs) → KnowsAll w (res_holds x) → KnowsAll w (res_holds (record x { macros = keep p x.macros }))
macros_kept-known w p x k =
    knows-append w _ _
    (knows-left w (option_map_or type_holds x.types [] ++ option_map_or value_holds x.values []) (option_map_or macro_holds x.macros []) k)
    (kept-known w macro_holds p x.macros (macros-known w x k))

-- a module of a known local map is known
pub local-known : (w : World) (L : LocalMap) (n : Name) (e : ModuleId × Option ExternCrateId) → KnowsAll w (local_holds L) → find_name n L ≡ Some e → KnowsAll w (held.Module e.0 ∷ [])
local-known w [] n e k is = cc
local-known w (l ∷ L) n e k is = by (same_name n l.0) is (local-known w L n e k.1)
  where
    by : (b : Bool) → cond b (Some l.1) (find_name n L) ≡ Some e → (find_name n L ≡ Some e → KnowsAll w (held.Module e.0 ∷ [])) → KnowsAll w (held.Module e.0 ∷ [])
    by true same rest = let P : Option (ModuleId × Option ExternCrateId) → Type 0 = λ o. KnowsAll w (option_map_or (λ d. held.Module d.0 ∷ []) o []) in subst P same (k.0, tt)
    by false there rest = rest there

-- a module of the extern prelude, public
pub public_module-known : (w : World) (m : ModuleId) (e : Option ExternCrateId) → KnowsAll w (held.Module m ∷ []) → KnowsAll w (res_holds (type_alone (def.ModuleId m) Public (by_crate e)))
public_module-known w m None k = k
public_module-known w m (Some x) k = k

first-known : (w : World) {A : Type 0} (holds : A → List HeldId) (a b : Option A) → KnowsAll w (option_map_or holds a []) → KnowsAll w (option_map_or holds b []) → KnowsAll w (option_map_or holds (option_or a b) [])
first-known w holds None b k l = l
first-known w holds (Some x) b k l = k

-- known items over known items are known
pub over-known : (w : World) (a b : PerNs) → KnowsAll w (res_holds a) → KnowsAll w (res_holds b) → KnowsAll w (res_holds (over a b))
over-known w a b k l =
    knows-append w _ _
    (knows-append w _ _ (first-known w type_holds a.types b.types (types-known w a k) (types-known w b l)) (first-known w value_holds a.values b.values (values-known w a k) (values-known w b l)))
    (first-known w macro_holds a.macros b.macros (macros-known w a k) (macros-known w b l))

-- Builders that grow step by step, and ids of their modules.
use Rattle.std.proofs.Common.{◌≡◌, ◌++◌, ◌∙◌, zero, suc, [], ◌∷◌, Option, Some, None, List, refl, subst, sym}
use Rattle.std.specs.Prelude.{IfSome, IsTrue}
use Rattle.dm_base.specs.declared.ids.ModuleId.{ModuleId}
use Rattle.dm_maps.specs.declared.check.held.HeldId.TheVariants as held
use Rattle.dm_maps.specs.Added.{IsGrown}
use Rattle.dm_maps.specs.Known.{knows}
use Rattle.dm_maps.specs.World.{World}
use Rattle.crate_tables.specs.Visibilities.{AreIdsOf, Ids}
use Rattle.dm_maps.specs.declared.check.held.HeldId.{HeldId}
use Rattle.dm_def_map.specs.Locals.{with_extern}
use Rattle.dm_def_map.specs.Maps.{LocalMap}
use Rattle.dm_base.specs.Names.{Name}
use Rattle.dm_base.specs.declared.ids.Crate.{Crate}
use Rattle.dm_base.specs.declared.ids.ExternCrateId.{ExternCrateId}
use Rattle.dm_maps.specs.BuildMaps.{locals_with, with_extern_of}
use Rattle.dm_def_map.specs.ItemTables.{ItemTables}
use Rattle.dm_maps.specs.Known.{KnowsAll}

pub grown-same : (w : World) → IsGrown w w
grown-same w = record {
  known = λ h k. k;
  all = λ hs k. k;
  scopes = λ k. refl;
  shown = λ g k ps s. s;
  places = λ k h. refl;
}

pub grown-further : (u v w : World) → IsGrown u v → IsGrown v w → IsGrown u w
grown-further u v w a b = record {
  known = λ h k. b.known h (a.known h k);
  all = λ hs k. b.all hs (a.all hs k);
  scopes = λ k. b.scopes k ∙ a.scopes k;
  shown = λ g k ps s. b.shown g k ps (a.shown g k ps s);
  places = λ k h. b.places k (a.known (held.Module k) h) ∙ a.places k h;
}

-- ids of a builder are ids of the one that it grows to
pub ids-on : (v w : World) (ids : Ids) → IsGrown v w → AreIdsOf v ids → AreIdsOf w ids
ids-on v w ids grown are n m at = grown.known (held.Module m) (are n m at)

-- and so they are with one more
pub ids-more : (w : World) (ids : Ids) (o : Option ModuleId) → AreIdsOf w ids → IfSome o (λ m. IsTrue (knows w (held.Module m))) → AreIdsOf w (ids ++ o ∷ [])
ids-more w [] None are k zero m at = cc
ids-more w [] (Some x) are k zero m at = let same : x ≡ m = cc in subst (λ y. IsTrue (knows w (held.Module y))) same k
ids-more w [] o are k (suc n) m at = cc
ids-more w (x ∷ xs) o are k zero m at = are zero m at
ids-more w (x ∷ xs) o are k (suc n) m at = ids-more w xs o (λ i y e. are (suc i) y e) k n m at

known-beside : (w : World) (ls : List LocalMap) (h : HeldId) → IsTrue (knows w h) → IsTrue (knows (record w { local_maps = ls }) h)
known-beside w ls (held.Module m) k = k
known-beside w ls (held.Crate c) k = k
known-beside w ls (held.Use u) k = k
known-beside w ls (held.Item i n) k = k
known-beside w ls (held.Variant v) k = k
known-beside w ls (held.Macro m) k = k

all-beside : (w : World) (ls : List LocalMap) (hs : List HeldId) → KnowsAll w hs → KnowsAll (record w { local_maps = ls }) hs
all-beside w ls [] k = tt
all-beside w ls (h ∷ hs) k = (known-beside w ls h k.0, all-beside w ls hs k.1)

-- extern preludes alone are changed
grown-beside : (w : World) (ls : List LocalMap) → IsGrown w (record w { local_maps = ls })
grown-beside w ls = record {
  known = known-beside w ls;
  all = all-beside w ls;
  scopes = λ k. refl;
  shown = λ g k ps s. s;
  places = λ k h. refl;
}

pub grown-extern : (w v : World) (k : Crate) (n : Name) (m : ModuleId) (x : Option ExternCrateId) → v ≡ with_extern_of w k n m x → IsGrown w v
grown-extern w v k n m x same = subst (IsGrown w) (sym same) (grown-beside w (locals_with w.local_maps k.0 (λ L. with_extern L n m x)))

-- so are tables that belong to no map
pub grown-tables : ((w : World) (t : ItemTables) → IsGrown w (record w { item_tables = t })) → (w v : World) (t : ItemTables) → v ≡ record w { item_tables = t } → IsGrown w v
grown-tables keeps w v t same = subst (IsGrown w) (sym same) (keeps w t)

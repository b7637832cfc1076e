-- Roots that extern crates link are the builder's.
use Rattle.std.proofs.Common.{◌∷◌, [], Bool, true, false, cond, List, Option, Some, None}
use Rattle.std.specs.List.{find}
use Rattle.std.specs.Option.{option_map}
use Rattle.std.specs.Prelude.{IfSome, IsTrue, map}
use Rattle.crate_items.specs.declared.items.declared_item.LinkedCrate.{LinkedCrate}
use Rattle.crate_items.specs.declared.items.declared_item.LinkedCrate.TheVariants.{Itself, Named}
use Rattle.crate_items.specs.declared.files.dependency.Dependency.{Dependency}
use Rattle.crate_tables.specs.ExternCrates.{held_root, linkable, linked_root, root_named, root_of_dep}
use Rattle.dm_maps.specs.declared.check.held.HeldId.TheVariants as held
use Rattle.dm_base.specs.Names.{Name, same_name}
use Rattle.dm_base.specs.declared.ids.Crate.{Crate}
use Rattle.dm_maps.specs.Known.{knows, KnowsAll}
use Rattle.dm_maps.specs.World.{World}

named-known : (w : World) (ds : List Dependency) (n : Name) → KnowsAll w (map held_root ds) → IfSome (root_named ds n) (λ m. IsTrue (knows w (held.Module m)))
named-known w [] n k = tt
named-known w (d ∷ ds) n k = by (same_name d.name n) (named-known w ds n k.1)
  where
    by : (b : Bool) → IfSome (root_named ds n) (λ m. IsTrue (knows w (held.Module m)))
        → IfSome (option_map root_of_dep (cond b (Some d) (find (λ (e : Dependency). same_name e.name n) ds))) (λ m. IsTrue (knows w (held.Module m)))
    by true later = k.0
    by false later = later

-- the root that is linked is known, since all are that can be
pub linked-known : (w : World) (k : Crate) (ds : List Dependency) (l : Option LinkedCrate) → KnowsAll w (linkable k ds) → IfSome (linked_root k ds l) (λ m. IsTrue (knows w (held.Module m)))
linked-known w k ds None known = tt
linked-known w k ds (Some Itself) known = known.0
linked-known w k ds (Some (Named n)) known = named-known w ds n known.1

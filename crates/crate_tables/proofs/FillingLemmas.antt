-- Crates are filled one after another.
use Rattle.std.proofs.Common.{◌≡◌, ◌≤◌, ◌<◌, ◌++◌, ◌+◌, ◌∷◌, [], ℕ, zero, suc, List, arith, get_or, length, subst, sym, refl, take}
use Rattle.std.proofs.lemmas.List.{take_all}
use Rattle.std.specs.Prelude.{All, None, Some, map, slice_get}
use Rattle.std.proofs.lemmas.List.Elements.{All-get_or, All-head, All-push, All-tail, All-weaker}
use Rattle.crate_items.specs.CrateGraphs.{AreKnown, Data, Graph}
use Rattle.crate_items.specs.declared.files.dependency.Dependency.{Dependency}
use Rattle.crate_tables.specs.CrateFillings.{AreCratesFrom, Crates, IsCrateIn, IsFaultIn, IsFaultOf, IsKnownTable, IsShortageOr, Reading, with_crate}
use Rattle.crate_tables.specs.CrateRoots.{HasRoots, KnowsRoots, root_holds}
use Rattle.crate_tables.specs.declared.fill_fault.FillFault.{FillFault}
use Rattle.crate_tables.specs.declared.fill_fault.FillFault.TheVariants.{NoRootFile, TooManyModules, OutOfNumbers, OutOfMemory}
use Rattle.crate_tables.specs.CrateTables.{IsLeafOf, IsNameOf, IsTableOf, Table, leaf_holds}
use Rattle.crate_tables.specs.ExternCrates.{Linked, held_root, linkable}
use Rattle.dm_maps.specs.Holding.{vis_holds}
use Rattle.dm_maps.specs.Pushes.{push_holds}
use Rattle.dm_maps.specs.declared.check.held.HeldId.TheVariants as held
use Rattle.dm_base.specs.declared.ids.Crate.{Crate}
use Rattle.crate_tables.specs.Kept.{IsKept}
use Rattle.crate_items.specs.Modules.{Listing}
use Rattle.dm_maps.specs.Known.{KnowsAll}
use Rattle.dm_maps.specs.World.{World}

-- what a table holds stays the builder's
pub known-on : (v w : World) (t : Table) → IsKept v w → IsKnownTable v t → IsKnownTable w t
known-on v w t grown known = record {
  names = All-weaker (IsNameOf v) (IsNameOf w) (λ d k. record { known = grown.all (push_holds d.home d.items None) k.known }) t.names known.names;
  leaves = All-weaker (IsLeafOf v) (IsLeafOf w) (λ x k. grown.all (leaf_holds x) k) t.leaves known.leaves;
}

pub tables-on : (v w : World) (ts : List Table) → IsKept v w → All (IsKnownTable v) ts → All (IsKnownTable w) ts
tables-on v w ts kept known = All-weaker (IsKnownTable v) (IsKnownTable w) (λ x h. known-on v w x kept h) ts known

pub tables-more : (v w : World) (k : Crate) (ts : List Table) (t : Table) → IsKept v w → All (IsKnownTable v) ts → IsTableOf w k t → All (IsKnownTable w) (ts ++ t ∷ [])
tables-more v w k ts t grown known is =
    All-push (IsKnownTable w) ts t (All-weaker (IsKnownTable v) (IsKnownTable w) (λ x h. known-on v w x grown h) ts known)
    (record { names = is.names; leaves = is.leaves })

-- roots that are known stay known
pub roots-on : (v w : World) (n : ℕ) → IsKept v w → KnowsRoots v n → KnowsRoots w n
roots-on v w n grown roots k less = grown.all (root_holds k) (roots k less)

pub roots-known : (w : World) (n : ℕ) → HasRoots w n → KnowsRoots w n
roots-known w n roots k less = ((roots k less).krate, ((roots k less).root, tt))

-- so are those that a crate can link, where the crates are there that it depends on
deps-known : (w : World) (n : ℕ) (ds : List Dependency) → KnowsRoots w n → All (λ (d : Dependency). d.crate_id.0 < n) ds → KnowsAll w (map held_root ds)
deps-known w n [] roots less = tt
deps-known w n (d ∷ ds) roots less = (
  (roots d.crate_id (All-head (λ (x : Dependency). x.crate_id.0 < n) d ds less)).1.0,
  deps-known w n ds roots (All-tail (λ (x : Dependency). x.crate_id.0 < n) d ds less),
)

pub linkable-known : (w : World) (n : ℕ) (k : Crate) (d : Data) → k.0 < n → KnowsRoots w n → AreKnown n d → KnowsAll w (linkable k d.dependencies)
linkable-known w n k d less roots known = ((roots k less).1.0, deps-known w n d.dependencies roots known)

-- what a crate depends on, where all crates of a graph do so
pub needs-of : (g ds : Graph) (n : ℕ) (d : Data) → n < length ds → d ≡ get_or ds n d → All (AreKnown (length g)) ds → AreKnown (length g) d
needs-of g ds n d less is known = subst (AreKnown (length g)) (sym is) (All-get_or (AreKnown (length g)) ds n d less known)

-- why one crate is not filled is why some are not
pub fault-in : (P Q : Type 0) (r : Reading) (g : Graph) (k : Crate) (d : Data) (f : FillFault) → slice_get g k.0 ≡ Some d → (P → Q) → IsShortageOr P (IsFaultOf r k d) f → IsShortageOr Q (IsFaultIn r g) f
fault-in P Q r g k d (NoRootFile c) at on h = (k, d, at, h)
fault-in P Q r g k d (TooManyModules c) at on h = (k, d, at, h)
fault-in P Q r g k d OutOfNumbers at on h = on h
fault-in P Q r g k d OutOfMemory at on h = tt

-- where there is no crate more, all are filled
pub all-crates : (r : Reading) (g cs : Graph) (c now : Crates) (n : ℕ) → cs ≡ g → length cs ≤ n → AreCratesFrom r 0 (take n g) c now → AreCratesFrom r 0 g c now
all-crates r g cs c now n same past so_far =
    let less : length g ≤ n = subst (λ (l : List Data). length l ≤ n) same past in
    subst (λ (l : List Data). AreCratesFrom r 0 l c now) (take_all n g less) so_far

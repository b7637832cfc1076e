-- The associated items of one crate more.
use Rattle.std.proofs.Common.{◌≡◌, ◌≤◌, ◌+◌, ◌∷◌, ℕ, List, drop, length, subst, sym, refl}
use Rattle.std.specs.Prelude.{slice_get}
use Rattle.std.proofs.lemmas.List.{drop_all}
use Rattle.crate_tables.specs.AssocItems.{AreAddedIf, AreAllAdded, Filled}
use Rattle.crate_tables.specs.Containers.{containers_of}
use Rattle.crate_items.specs.Files.{SourceFile}
use Rattle.crate_items.specs.Modules.{Listing}
use Rattle.crate_tables.specs.CrateTables.{Table}

-- the crate of a number is next
pub next-added : (files : List SourceFile) (ls : List Listing) (ts : List Table) (start now next : Filled) (k n m : ℕ) (t : Table)
    → drop k ts ≡ t ∷ drop (k + 1) ts → m ≡ n + length t.blocks
    → AreAddedIf files (slice_get ls k) (containers_of n t) now next
    → ((all : Filled) → AreAllAdded files ls k n (drop k ts) now all → AreAllAdded files ls 0 0 ts start all)
    → (all : Filled) → AreAllAdded files ls (k + 1) m (drop (k + 1) ts) next all → AreAllAdded files ls 0 0 ts start all
next-added files ls ts start now next k n m t first number one before all more =
    before all (subst (λ (xs : List Table). AreAllAdded files ls k n xs now all) (sym first)
    (next, one, subst (λ (x : ℕ). AreAllAdded files ls (k + 1) x (drop (k + 1) ts) next all) number more))

-- there is none more
pub all-added : (files : List SourceFile) (ls : List Listing) (ts : List Table) (start now : Filled) (k n : ℕ) → length ts ≤ k
    → ((all : Filled) → AreAllAdded files ls k n (drop k ts) now all → AreAllAdded files ls 0 0 ts start all)
    → AreAllAdded files ls 0 0 ts start now
all-added files ls ts start now k n past before =
    before now (subst (λ (xs : List Table). AreAllAdded files ls k n xs now now) (sym (drop_all k ts past)) refl)

-- Why crates are not filled, from why one of them is not.
use Rattle.std.proofs.Common.{◌≡◌, ◌≤◌, ◌<◌, ◌||◌, ◌+◌, ◌++◌, ◌∷◌, ◌∙◌, [], ℕ, zero, suc, Bool, true, false, List, ap, arith, drop, length, length-append, refl, subst, sym, take}
use Rattle.std.proofs.lemmas.List.{take_all}
use Rattle.std.specs.List.{list_any}
use Rattle.crate_tables.proofs.MoreSteps.{or-left, or-on, or-right, short-for}
use Rattle.crate_items.specs.CrateGraphs.{Data, Graph}
use Rattle.crate_items.specs.Modules.{Listing}
use Rattle.crate_tables.specs.BlockLists.{blocks_of}
use Rattle.crate_tables.specs.CrateFillings.{AreCratesFrom, CrateRunsOut, Crates, FillRunsOut, IsCrateIn, IsFaultIn, IsFaultOf, IsListOf, IsShortageOr, Reading, RunsOut, RunsOutFrom, are_over, is_crowded, no_crates, of_builder, with_crate}
use Rattle.crate_tables.specs.CrateRoots.{with_roots}
use Rattle.crate_tables.specs.CrateTables.{Table}
use Rattle.crate_tables.specs.ExternCrates.{Linked}
use Rattle.crate_tables.specs.Numbers.{has_far, has_too_many, is_past, is_shortage, IsShortage}
use Rattle.crate_tables.specs.declared.extern_crates.ExternCrateRow.{ExternCrateRow}
use Rattle.crate_tables.specs.declared.fill_fault.FillFault.{FillFault}
use Rattle.crate_tables.specs.declared.fill_fault.FillFault.TheVariants.{NoRootFile, TooManyModules, OutOfNumbers, OutOfMemory}
use Rattle.dm_base.specs.declared.ids.Crate.{Crate}
use Rattle.dm_maps.specs.Build.{no_world}
use Rattle.dm_maps.specs.World.{World}
use Rattle.dm_maps.specs.declared.build_fault.BuildFault.{BuildFault}
use Rattle.dm_maps.specs.declared.build_fault.BuildFault.TheVariants as fault

-- the fault of a builder
pub builder-or : (P Q : Type 0) (R : FillFault → Type 0) → (P → Q) → (f : BuildFault) (g : FillFault) → g ≡ of_builder f → IsShortage P f → IsShortageOr Q R g
builder-or P Q R on f g same h = subst (IsShortageOr Q R) (sym same) (by f h)
  where
    by : (f : BuildFault) → IsShortage P f → IsShortageOr Q R (of_builder f)
    by fault.OutOfMemory h = tt
    by fault.OutOfNumbers h = on h
    by fault.NoSuchCrate h = absurd h
    by fault.NoSuchModule h = absurd h
    by fault.NoSuchEnum h = absurd h
    by fault.TakenChild h = absurd h
    by fault.TakenVariant h = absurd h

-- where its modules are not listed
pub listed-or : (Q : Type 0) (r : Reading) (k : Crate) (d : Data) (f : FillFault) → IsFaultOf r k d f → IsShortageOr Q (IsFaultOf r k d) f
listed-or Q r k d (NoRootFile c) h = h
listed-or Q r k d (TooManyModules c) h = h
listed-or Q r k d OutOfNumbers h = absurd h
listed-or Q r k d OutOfMemory h = tt

-- of a crate of a list
pub crate-runs : (r : Reading) (k : Crate) (d : Data) (w : World) (rows : List ExternCrateRow) (l : Listing) → IsListOf r d l → FillRunsOut r.files k d w rows l → CrateRunsOut r k d w rows
crate-runs r k d w rows l is (s, filled, over) = (l, s, record { is = is; items = filled }, over)

-- of the crate of a number
pub number-runs : (r : Reading) (k : Crate) (n : ℕ) (d : Data) (w : World) (rows : List ExternCrateRow) → k.0 ≡ n → CrateRunsOut r k d w rows → CrateRunsOut r (record { 0 = n }) d w rows
number-runs r k n d w rows at h =
    let one : k ≡ record { 0 = n } = λ i. record { 0 = at i } in
    subst (λ (x : Crate). CrateRunsOut r x d w rows) one h

-- ---- One crate more

pub crates-snoc : (r : Reading) (n : ℕ) (g : Graph) (c now : Crates) (d : Data) (l : Listing) (s : Linked) → AreCratesFrom r n g c now → IsCrateIn r (record { 0 = n + length g }) d now.world now.rows l s
    → AreCratesFrom r n (g ++ d ∷ []) c (with_crate now l s)
crates-snoc r n [] c now d l s same one =
    let at : n + 0 ≡ n = omega arith in
    let here = subst (λ (m : ℕ). IsCrateIn r (record { 0 = m }) d now.world now.rows l s) at one in
    subst (λ (x : Crates). (m : Listing) × (t : Linked) × IsCrateIn r (record { 0 = n }) d x.world x.rows m t × (with_crate now l s ≡ with_crate x m t)) same (l, s, here, refl)
crates-snoc r n (x ∷ xs) c now d l s (m, t, first, rest) one =
    let at : n + suc (length xs) ≡ (n + 1) + length xs = omega arith in
    let here = subst (λ (i : ℕ). IsCrateIn r (record { 0 = i }) d now.world now.rows l s) at one in
    (m, t, first, crates-snoc r (n + 1) xs (with_crate c m t) now d l s rest here)

pub take-next : {X : Type 0} (n : ℕ) (xs : List X) (x : X) (rest : List X) → drop n xs ≡ x ∷ rest → take (n + 1) xs ≡ take n xs ++ x ∷ []
take-next zero [] x rest e = cc
take-next {X} zero (y ∷ ys) x rest e = let same : y ≡ x = cc in ap (λ (z : X). z ∷ []) same
take-next (suc n) [] x rest e = cc
take-next {X} (suc n) (y ∷ ys) x rest e =
    let step : suc n + 1 ≡ suc (n + 1) = omega arith in
    ap (λ m. take m (y ∷ ys)) step ∙ ap (λ (l : List X). y ∷ l) (take-next n ys x rest e)

pub take-count : {X : Type 0} (n : ℕ) (xs : List X) (x : X) (rest : List X) → drop n xs ≡ x ∷ rest → length (take n xs) ≡ n
take-count zero [] x rest e = cc
take-count zero (y ∷ ys) x rest e = refl
take-count (suc n) [] x rest e = cc
take-count (suc n) (y ∷ ys) x rest e = ap (λ m. suc m) (take-count n ys x rest e)

pub next-so_far : (r : Reading) (g : Graph) (start now next : Crates) (n : ℕ) (d : Data) (rest : Graph) (l : Listing) (s : Linked) → drop n g ≡ d ∷ rest → next ≡ with_crate now l s
    → IsCrateIn r (record { 0 = n }) d now.world now.rows l s → AreCratesFrom r 0 (take n g) start now → AreCratesFrom r 0 (take (n + 1) g) start next
next-so_far r g start now next n d rest l s first same one so_far =
    let at : n ≡ 0 + length (take n g) = omega (arith, take-count n g d rest first) in
    let here = subst (λ (i : ℕ). IsCrateIn r (record { 0 = i }) d now.world now.rows l s) at one in
    let more = crates-snoc r 0 (take n g) start now d l s so_far here in
    subst (λ (x : Crates). AreCratesFrom r 0 (take (n + 1) g) start x) (sym same)
    (subst (λ (xs : Graph). AreCratesFrom r 0 xs start (with_crate now l s)) (sym (take-next n g d rest first)) more)

-- ---- Where numbers run out

far-push : (ls : List Listing) (l : Listing) → has_far l ≡ true → list_any has_far (ls ++ l ∷ []) ≡ true
far-push [] l h = or-left (has_far l) false h
far-push (x ∷ xs) l h = or-right (has_far x) (list_any has_far (xs ++ l ∷ [])) (far-push xs l h)

crate-over : (c : Crates) (l : Listing) (s : Linked) → (is_crowded s || has_far l) ≡ true → are_over (with_crate c l s) ≡ true
crate-over c l s over =
    let many = has_too_many s.world in
    let rows = is_past (length s.rows) in
    let far = list_any has_far (c.lists ++ l ∷ []) in
    let blocks = is_past (length (blocks_of (c.tables ++ s.table ∷ []))) in
    by many rows (has_far l) far blocks (far-push c.lists l) over
  where
    by : (a b x y z : Bool) → (x ≡ true → y ≡ true) → ((a || b) || x) ≡ true → (a || (b || (y || z))) ≡ true
    by true b x y z f h = refl
    by false true x y z f h = refl
    by false false x y z f h = or-left y z (f h)

pub next-runs : (r : Reading) (g : Graph) (start now : Crates) (n : ℕ) (d : Data) (rest : Graph) (f : FillFault) → drop n g ≡ d ∷ rest → AreCratesFrom r 0 (take n g) start now
    → IsShortageOr (CrateRunsOut r (record { 0 = n }) d now.world now.rows) (IsFaultIn r g) f → IsShortageOr (RunsOutFrom r g start) (IsFaultIn r g) f
next-runs r g start now n d rest (NoRootFile k) first so_far h = h
next-runs r g start now n d rest (TooManyModules k) first so_far h = h
next-runs r g start now n d rest OutOfMemory first so_far h = tt
next-runs r g start now n d rest OutOfNumbers first so_far (l, s, one, over) = record {
  number = n + 1;
  crates = with_crate now l s;
  filled = next-so_far r g start now (with_crate now l s) n d rest l s first refl one so_far;
  over = crate-over now l s over;
}

-- before any crate is filled
pub roots-run : (r : Reading) (g : Graph) → has_too_many (with_roots no_world g) ≡ true → RunsOut r g
roots-run r g many = record {
  number = 0;
  crates = no_crates (with_roots no_world g);
  filled = refl;
  over = or-left (has_too_many (with_roots no_world g)) _ many;
}

-- behind all of them
pub blocks-run : (r : Reading) (g : Graph) (c : Crates) → AreCratesFrom r 0 g (no_crates (with_roots no_world g)) c → is_past (length (blocks_of c.tables)) ≡ true → RunsOut r g
blocks-run r g c filled past = record {
  number = length g;
  crates = c;
  filled = subst (λ (xs : Graph). AreCratesFrom r 0 xs (no_crates (with_roots no_world g)) c) (sym (take_all (length g) g (omega arith))) filled;
  over = or-right (has_too_many c.world) _ (or-right (is_past (length c.rows)) _ (or-right (list_any has_far c.lists) (is_past (length (blocks_of c.tables))) past));
}

-- Blocks of several crates, one after another.
use Rattle.std.proofs.Common.{◌≡◌, ◌∙◌, ◌+◌, ◌-◌, ◌<◌, ◌≤◌, ℕ, zero, suc, List, [], ◌∷◌, ◌++◌, ap, arith, length, refl}
use Rattle.std.specs.Prelude.{slice_get}
use Rattle.crate_tables.specs.BlockLists.{with_block, with_blocks_from}
use Rattle.crate_tables.specs.declared.item_place.BlockPlace.{BlockPlace}
use Rattle.dm_maps.specs.World.{World}

-- those of one crate first, and then all others
pub blocks-append : (w : World) (n : ℕ) (xs ys : List BlockPlace) → with_blocks_from w n (xs ++ ys) ≡ with_blocks_from (with_blocks_from w n xs) (n + length xs) ys
blocks-append w n [] ys = ap (λ k. with_blocks_from w k ys) (omega arith)
blocks-append w n (x ∷ xs) ys =
    blocks-append (with_block w n x) (n + 1) xs ys
    ∙ ap (λ k. with_blocks_from (with_blocks_from (with_block w n x) (n + 1) xs) k ys) (omega arith)

-- an element of a list stays where more come behind it
pub get-first : {X : Type 0} (xs ys : List X) (i : ℕ) → i < length xs → slice_get (xs ++ ys) i ≡ slice_get xs i
get-first [] ys i h = absurd (omega arith)
get-first (x ∷ xs) ys zero h = refl
get-first (x ∷ xs) ys (suc i) h = get-first xs ys i (omega arith)

-- behind a list come those of the next
pub get-behind : {X : Type 0} (xs ys : List X) (i : ℕ) → length xs ≤ i → slice_get (xs ++ ys) i ≡ slice_get ys (i - length xs)
get-behind [] ys i h = ap (slice_get ys) (omega arith)
get-behind (x ∷ xs) ys zero h = absurd (omega arith)
get-behind (x ∷ xs) ys (suc i) h = get-behind xs ys i (omega arith) ∙ ap (slice_get ys) (omega arith)

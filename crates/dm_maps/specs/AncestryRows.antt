-- Worked examples of depths and hops, which hold by computation.
use Rattle.std.specs.Prelude.{◌≡◌, ℕ, [], ◌∷◌, Option, None, Some, true, false, refl}
use Rattle.std.specs.Int.Count.{ones, ones_in}
use Rattle.dm_base.specs.declared.ids.ModuleId.{ModuleId}
use Rattle.dm_base.specs.Tree.{Tree, chain, is_among}
use Rattle.dm_maps.specs.Ancestry.{depth, member, moves}
use Rattle.dm_maps.specs.JumpPointers.{tree_above}

-- the containing module of number n
abbrev in_ : ℕ → Option ModuleId
in_ n = Some (record { 0 = n })

-- modules 0 to 15 each in the one before, 16 in 0, 17 in 16
abbrev rows : Tree
rows = tree_above (None ∷ in_ 0 ∷ in_ 1 ∷ in_ 2 ∷ in_ 3 ∷ in_ 4 ∷ in_ 5 ∷ in_ 6 ∷ in_ 7 ∷ in_ 8 ∷ in_ 9 ∷ in_ 10 ∷ in_ 11 ∷ in_ 12 ∷ in_ 13 ∷ in_ 14 ∷ in_ 0 ∷ in_ 16 ∷ [])

abbrev m : ℕ → ModuleId
m n = record { 0 = n }

deepest : depth rows (m 15) ≡ 15
deepest = refl

outmost : member rows 15 (m 15) ≡ m 0
outmost = refl

beyond : member rows 16 (m 15) ≡ m 0
beyond = refl

root-contains : is_among (m 0) (chain rows (m 15)) ≡ true
root-contains = refl

beside : is_among (m 1) (chain rows (m 17)) ≡ false
beside = refl

first-contains : is_among (m 1) (chain rows (m 15)) ≡ true
first-contains = refl

seventh-contains : is_among (m 7) (chain rows (m 15)) ≡ true
seventh-contains = refl

deeper : is_among (m 15) (chain rows (m 3)) ≡ false
deeper = refl

itself : is_among (m 5) (chain rows (m 5)) ≡ true
itself = refl

four-moves : moves rows (m 0) (m 15) ≡ 4
unfolding ones ones_in
four-moves = refl

three-moves : moves rows (m 1) (m 15) ≡ 3
unfolding ones ones_in
three-moves = refl

one-move : moves rows (m 7) (m 15) ≡ 1
unfolding ones ones_in
one-move = refl

one-move-beside : moves rows (m 1) (m 17) ≡ 1
unfolding ones ones_in
one-move-beside = refl

not-deeper : moves rows (m 15) (m 3) ≡ 0
unfolding ones ones_in
not-deeper = refl

as-deep : moves rows (m 5) (m 5) ≡ 0
unfolding ones ones_in
as-deep = refl

-- One dependency more.
use Rattle.std.proofs.Common.{◌≡◌, ◌<◌, ◌∷◌, [], ℕ, zero, suc, length, slice_set, slice_index_or, arith, ap}
use Rattle.crate_items.specs.declared.files.dependency.Dependency.{Dependency}
use Rattle.crate_items.specs.CrateGraphs.{Data, Graph, with_dependency, with_edge}

-- it is a write at the crate
pub set-with_edge : (g : Graph) (n : ℕ) (d : Dependency) (c : Data) → n < length g → c ≡ slice_index_or g n c
    → slice_set g n (with_dependency d c) ≡ with_edge g n d
set-with_edge [] n d c within here = absurd (omega arith)
set-with_edge (x ∷ xs) zero d c within here = ap (λ e. with_dependency d e ∷ xs) here
set-with_edge (x ∷ xs) (suc n) d c within here = ap (λ g. x ∷ g) (set-with_edge xs n d c (omega arith) here)

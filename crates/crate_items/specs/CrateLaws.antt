-- Orders and circles exclude each other.
use Rattle.std.specs.Prelude.{ℕ, List}
use Rattle.crate_items.specs.CrateGraphs.{IsCircle, IsOrder}

abbrev pub NoCircleInOrder : Type 0
NoCircleInOrder = (rs : List (List ℕ)) (order circle : List ℕ) → IsOrder rs order → ¬ IsCircle rs circle

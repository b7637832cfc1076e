-- Why a graph's crates have no order.
use Rattle.std.specs.Prelude.{ℕ, List}
use Rattle.crate_items.specs.declared.files.crate_order.OrderFault.{OrderFault}
use Rattle.crate_items.specs.declared.files.crate_order.OrderFault.TheVariants.{Cycle, OutOfMemory}
use Rattle.crate_items.specs.CrateGraphs.{IsCircle, numbers}

-- the crates that it names are a circle
abbrev pub IsFaultOf : List (List ℕ) → OrderFault → Type 0
IsFaultOf rs (Cycle circle) = IsCircle rs (numbers circle.items)
IsFaultOf rs OutOfMemory = Unit {0}

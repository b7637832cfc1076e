use Rattle.std.proofs.Common.{◌≡◌, ◌++◌, drop}
use Rattle.std.specs.Prelude.{map}
use Rattle.crate_tables.specs.Containers.{home_of}
use Rattle.crate_tables.proofs.assoc_items.containers.homes_of.Given as goal

abbrev pub invariant-loop-container : goal.invariant-loop-container
invariant-loop-container l = l.homes.items ++ map home_of (drop l.container-index l.containers) ≡ map home_of l.containers

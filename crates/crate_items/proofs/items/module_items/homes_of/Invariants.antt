use Rattle.std.proofs.Common.{◌≡◌, ◌++◌, drop}
use Rattle.std.specs.Prelude.{map}
use Rattle.crate_items.specs.ModuleItems.{home_of}
use Rattle.crate_items.proofs.items.module_items.homes_of.Given as goal

abbrev pub invariant-loop-module : goal.invariant-loop-module
invariant-loop-module l = l.homes.items ++ map home_of (drop l.module-index l.modules) ≡ map home_of l.modules

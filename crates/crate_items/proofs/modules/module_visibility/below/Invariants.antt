use Rattle.std.proofs.Common.{◌≡◌, ◌-◌}
use Rattle.crate_items.specs.ModuleVisibilities.{below, parent_of}
use Rattle.crate_items.proofs.modules.module_visibility.below.Given as goal

abbrev pub invariant-loop : goal.invariant-loop
invariant-loop l = below (l.number - l.counter) l.modules l.outer l.around (parent_of l.modules l.around) ≡ below l.number l.modules l.outer l.number (parent_of l.modules l.number)

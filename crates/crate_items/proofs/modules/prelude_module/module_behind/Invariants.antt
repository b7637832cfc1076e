use Rattle.std.proofs.Common.{◌≡◌, Some, drop}
use Rattle.crate_items.specs.PreludeModules.{module_behind}
use Rattle.crate_items.proofs.modules.prelude_module.module_behind.Given as goal

abbrev pub invariant-loop-name : goal.invariant-loop-name
invariant-loop-name l = module_behind l.modules l.reached (drop l.name-index l.names) ≡ module_behind l.modules (Some l.start) l.names

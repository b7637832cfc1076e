use Rattle.std.proofs.Common.{◌≡◌, [], drop}
use Rattle.crate_items.specs.BareModules.{bare_from}
use Rattle.crate_items.proofs.modules.bare_modules.bare_modules.Given as goal

abbrev pub invariant-loop-declared : goal.invariant-loop-declared
invariant-loop-declared l = bare_from l.list l.bare.items (drop l.declared-index l.list.modules) ≡ bare_from l.list [] l.list.modules

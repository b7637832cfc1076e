use Rattle.std.proofs.Common.{◌≡◌, ◌++◌, drop}
use Rattle.std.specs.Prelude.{map}
use Rattle.crate_items.specs.TextualScopes.{left_behind}
use Rattle.crate_items.proofs.macros.left_behind.all_left.Given as goal

abbrev pub invariant-loop-declared : goal.invariant-loop-declared
invariant-loop-declared l = l.left.items ++ map (left_behind l.list l.items l.textual) (drop l.declared-index l.list.modules) ≡ map (left_behind l.list l.items l.textual) l.list.modules

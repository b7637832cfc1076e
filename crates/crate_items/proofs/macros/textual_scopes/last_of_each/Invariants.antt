use Rattle.std.proofs.Common.{◌≡◌, ◌++◌, drop}
use Rattle.crate_items.specs.TextualScopes.{last_of_each}
use Rattle.crate_items.proofs.macros.textual_scopes.last_of_each.Given as goal

abbrev pub invariant-loop-place : goal.invariant-loop-place
invariant-loop-place l = l.last.items ++ last_of_each l.items (drop l.place l.macros) ≡ last_of_each l.items l.macros

use Rattle.std.proofs.Common.{◌≡◌, ◌++◌, drop}
use Rattle.std.specs.Prelude.{map}
use Rattle.crate_items.specs.TextualScopes.{nothing_in}
use Rattle.crate_items.proofs.macros.textual_scopes.no_scopes.Given as goal

abbrev pub invariant-loop-listed : goal.invariant-loop-listed
invariant-loop-listed l = l.scopes.items ++ map nothing_in (drop l._listed-index l.modules) ≡ map nothing_in l.modules

use Rattle.std.proofs.Common.{◌≡◌, ◌++◌, drop}
use Rattle.std.specs.Prelude.{map}
use Rattle.crate_items.specs.TextualScopes.{entering}
use Rattle.crate_items.proofs.macros.textual_scopes.entering.Given as goal

abbrev pub invariant-loop-one : goal.invariant-loop-one
invariant-loop-one l = l.made.items ++ map (entering l.behind) (drop l.one-index l.macros) ≡ map (entering l.behind) l.macros

use Rattle.std.proofs.Common.{◌≡◌, ◌++◌, drop}
use Rattle.crate_items.specs.DeclaredImports.{imports_from}
use Rattle.crate_items.proofs.items.declared_import.imports_of_trees.Given as goal

abbrev pub invariant-loop-number : goal.invariant-loop-number
invariant-loop-number l =
    l.found.items ++ imports_from l.text l.lexemes l.trees l.number (drop l.number l.trees) ≡ imports_from l.text l.lexemes l.trees 0 l.trees

use Rattle.std.proofs.Common.{◌≡◌, ◌++◌}
use Rattle.std.specs.Prelude.{reverse}
use Rattle.item_tree.specs.Children.{rank_of}
use Rattle.item_tree.specs.Imports.{import_path}
use Rattle.item_tree.proofs.ImportPaths.{path_of}
use Rattle.item_tree.proofs.items.imports.import_path.Given as goal

abbrev pub invariant-loop-next : goal.invariant-loop-next
invariant-loop-next l = path_of l.lexemes l.trees l.next ++ reverse l.places.items ≡ import_path l.lexemes l.trees l.fn.number

abbrev pub decreases-loop-next : goal.decreases-loop-next
decreases-loop-next l = rank_of l.next

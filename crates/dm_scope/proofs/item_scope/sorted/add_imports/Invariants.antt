use Rattle.std.proofs.Common.{◌≡◌, ◌++◌, drop}
use Rattle.std.specs.List.{filter_map}
use Rattle.dm_base.specs.Imports.{named_import}
use Rattle.dm_scope.proofs.item_scope.sorted.add_imports.Given as goal

-- what is there, with what is left, is what the call began with, with all
abbrev pub invariant-loop-import : goal.invariant-loop-import
invariant-loop-import g l =
    l.imports.items ++ filter_map (λ i. named_import (g.I.ImportSource.widened i)) (drop l.import-index l.more)
    ≡ l.fn.imports.items ++ filter_map (λ i. named_import (g.I.ImportSource.widened i)) l.more

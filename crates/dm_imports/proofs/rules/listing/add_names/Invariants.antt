use Rattle.std.proofs.Common.{◌≡◌, ◌++◌, drop}
use Rattle.dm_scope.specs.Sorted.{seen}
use Rattle.dm_imports.proofs.rules.listing.add_names.Given as goal

-- what is there, with what is left, is what the call began with, with all
abbrev pub invariant-loop-name : goal.invariant-loop-name
invariant-loop-name l = seen l.names.items ++ seen (drop l.name-index l.more) ≡ seen l.fn.names.items ++ seen l.more

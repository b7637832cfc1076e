use Rattle.std.proofs.Common.{◌≡◌, ◌++◌, map}
use Rattle.dm_scope.specs.Sorted.{seen}
use Rattle.dm_imports.proofs.rules.source_names.add_variants.Given as goal

-- what is there, with what is left, is what the call began with, with all
abbrev pub invariant-loop-name : goal.invariant-loop-name
invariant-loop-name l = seen l.names.items ++ map (λ v. v.0) l.name-iterator ≡ seen l.fn.names.items ++ map (λ v. v.0) l.fn.variants

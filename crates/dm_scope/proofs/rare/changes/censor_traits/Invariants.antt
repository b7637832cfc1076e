use Rattle.std.proofs.Common.{◌≡◌, ◌++◌, map, take, drop}
use Rattle.dm_scope.specs.Rare.{censored_trait}
use Rattle.dm_scope.proofs.rare.changes.censor_traits.Given as goal

-- those before the index are censored, and the others are as they were
abbrev pub invariant-loop-unnamed : goal.invariant-loop-unnamed
invariant-loop-unnamed l = l.traits ≡ map (censored_trait l.krate) (take l.unnamed-index l.fn.traits) ++ drop l.unnamed-index l.fn.traits

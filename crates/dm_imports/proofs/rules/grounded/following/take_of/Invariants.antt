use Rattle.std.specs.List.{Contains}
use Rattle.dm_imports.specs.Grounding.{Way}
use Rattle.dm_imports.proofs.rules.grounded.following.take_of.Given as goal

-- what is left was there
abbrev pub invariant-loop-slot : goal.invariant-loop-slot
invariant-loop-slot l = (w : Way) → Contains l.fresh.items w → Contains l.fn.fresh.items w

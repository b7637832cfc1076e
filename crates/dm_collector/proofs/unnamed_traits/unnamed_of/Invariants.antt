use Rattle.std.proofs.Common.{◌≡◌, slice_get}
use Rattle.dm_collector.proofs.unnamed_traits.unnamed_of.Given as goal

-- what stands at the place is so many places behind what was gone over
abbrev pub invariant-loop-unnamed : goal.invariant-loop-unnamed
invariant-loop-unnamed l = slice_get l.unnamed-iterator l.left ≡ slice_get l.scope.unnamed_traits l.fn.i

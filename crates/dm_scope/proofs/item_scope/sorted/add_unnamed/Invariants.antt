use Rattle.std.proofs.Common.{◌≡◌, ◌++◌, drop, map}
use Rattle.dm_scope.specs.Sorted.{deref_resolution, unnamed_resolution}
use Rattle.dm_scope.proofs.item_scope.sorted.add_unnamed.Given as goal

-- what is there, with what is left, is what the call began with, with all
abbrev pub invariant-loop-unnamed : goal.invariant-loop-unnamed
invariant-loop-unnamed l =
    map deref_resolution l.resolutions.items ++ map unnamed_resolution (drop l.unnamed-index l.traits)
    ≡ map deref_resolution l.fn.resolutions.items ++ map unnamed_resolution l.traits

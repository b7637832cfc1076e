use Rattle.std.proofs.Common.{◌≡◌, drop}
use Rattle.dm_scope.specs.Lookups.{trait_vis}
use Rattle.dm_scope.proofs.item_scope.ItemScope.unnamed_trait_vis.Given as goal

-- what is left says what the whole list says
abbrev pub invariant-loop-unnamed : goal.invariant-loop-unnamed
invariant-loop-unnamed l = trait_vis l.tr (drop l.unnamed-index l.unnamed-items) ≡ trait_vis l.tr l.unnamed-items

use Rattle.std.proofs.Common.{◌≡◌}
use Rattle.std.specs.List.{list_any}
use Rattle.dm_retry.specs.Unnamed.{shows_trait}
use Rattle.dm_retry.proofs.unnamed.has_shown.Given as goal

abbrev pub invariant-loop-unnamed : goal.invariant-loop-unnamed
invariant-loop-unnamed l = list_any (shows_trait l.world l.m l.tr l.vis) l.unnamed-iterator ≡ list_any (shows_trait l.world l.m l.tr l.vis) l.scope.unnamed_traits

use Rattle.std.proofs.Common.{◌≡◌, ◌||◌, length}
use Rattle.indexmap.specs.IndexSet.{contains}
use Rattle.dm_base.specs.declared.imports.ImportId.{ImportId}
use Rattle.dm_retry.specs.Known.{is_listed, same_leaf}
use Rattle.dm_retry.proofs.listing.made.Given as goal

abbrev pub invariant-imports : goal.invariant-imports
invariant-imports l = (i : ImportId) → (contains same_leaf l.listed i || is_listed l.rest i) ≡ is_listed l.pendings i

abbrev pub decreases-imports : goal.decreases-imports
decreases-imports l = length l.rest

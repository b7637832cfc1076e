use Rattle.std.proofs.Common.{◌≡◌, ◌&&◌, ℕ, length, not, nat_eq}
use Rattle.dm_retry.specs.Index.{has_place}
use Rattle.dm_base.specs.Names.{Name}
use Rattle.dm_maps.specs.Cut.{among}
use Rattle.dm_retry.proofs.worklist.index.remove_names.Given as goal

abbrev pub invariant-names : goal.invariant-names
invariant-names l = (n : Name) (j : ℕ) → (has_place l.index.entries n j && not (among l.rest n && nat_eq j l.k)) ≡ (has_place l.initial.index.entries n j && not (among l.names n && nat_eq j l.k))

abbrev pub decreases-names : goal.decreases-names
decreases-names l = length l.rest

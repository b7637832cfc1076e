-- The invariant of unresolved imports: the ids that they hold are the world's, none is listed twice, and a try of one
-- that is not due would change nothing.
use Rattle.std.specs.Prelude.{◌≡◌, ℕ, false, Some, slice_get}
use Rattle.dm_maps.specs.Known.{KnowsAll}
use Rattle.dm_retry.specs.Known.{parts}
use Rattle.dm_retry.specs.Rounds.{Pending, State, would_write}

pub record IsSettled (s : State) : Type 0 where
  pub known : (i : ℕ) (p : Pending) → slice_get s.pending i ≡ Some p → KnowsAll s.world (parts p)
  pub single : (i j : ℕ) (p q : Pending) → slice_get s.pending i ≡ Some p → slice_get s.pending j ≡ Some q → p.import ≡ q.import → i ≡ j
  pub settled : (i : ℕ) (p : Pending) → slice_get s.pending i ≡ Some p → p.due ≡ false → would_write s.world s.globs p ≡ false

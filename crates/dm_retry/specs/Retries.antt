-- Rounds of import resolution, as contracts see them: the state, how many tries the last round began, and at which
-- import an allocation failure stops a round.
use Rattle.std.specs.Prelude.{◌≡◌, ◌<◌, ℕ, suc, true, false, length}
use Rattle.dm_retry.specs.Rounds.{State, after, would_write_at, due_turns, is_due, refused_at, rounds, try_at}

-- the state, and how many tries the last round began
pub record Retries : Type 0 where
  pub state : State
  pub last_tries : ℕ

-- A try of the import at a place would bind nothing, and change nothing.
pub record RestsAt (s : State) (i : ℕ) : Type 0 where
  pub writes : would_write_at s i ≡ false
  pub leaves : try_at s i ≡ s

-- No import is due.
abbrev pub NoneDue : State → Type 0
NoneDue s = (i : ℕ) → is_due s i ≡ false

-- An allocation failure stops a round of all imports at a place: the tries before it are kept, and it is counted with
-- them.
pub record StopsAt (s : State) (r : Retries) : Type 0 where
  pub place : ℕ
  pub within : place < length s.pending
  pub state : r.state ≡ refused_at (after s place) place
  pub tries : r.last_tries ≡ suc place

-- It stops a round of the due (dirty) ones at one that is due, and those that were due at their turn are counted.
pub record StopsAtDue (s : State) (r : Retries) : Type 0 where
  pub place : ℕ
  pub within : place < length s.pending
  pub is_due : is_due (after s place) place ≡ true
  pub state : r.state ≡ refused_at (after s place) place
  pub tries : r.last_tries ≡ suc (due_turns s place)

-- It stops a round of either kind at a place.
pub record Stops (s t : State) : Type 0 where
  pub place : ℕ
  pub within : place < length s.pending
  pub state : t ≡ refused_at (after s place) place

-- It stops one of a number of rounds: those before it are kept.
pub record StopsIn (s : State) (count : ℕ) (t : State) : Type 0 where
  pub before : ℕ
  pub fewer : before < count
  pub stops : Stops (rounds before s) t

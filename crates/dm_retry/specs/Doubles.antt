-- A walk over imports whose numbers rise.
use Rattle.std.specs.Prelude.{◌≡◌, ◌≤◌, ℕ, suc, ◌+◌, ◌*◌, ◌^◌, List, Option, Some, slice_get}
use Rattle.std.specs.Option.{option_map_or}
use Rattle.dm_base.specs.declared.imports.ImportId.{ImportId}
use Rattle.dm_retry.specs.Rounds.{Pending}

-- a number of an import: imports with different numbers are different
abbrev pub number_of : ImportId → ℕ
number_of i = i.use_.0 * 2 ^ 32 + i.idx.0

-- the least number above the last, if there is one
abbrev pub floor : Option ℕ → ℕ
floor last = option_map_or suc last 0

-- the number of an import of the list that is above the last
pub record IsNext (ps : List Pending) (last : Option ℕ) (number : ℕ) : Type 0 where
  pub place : ℕ
  pub pending : Pending
  pub at : slice_get ps place ≡ Some pending
  pub is : number ≡ number_of pending.import
  pub above : floor last ≤ number

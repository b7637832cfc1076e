-- Rows whose positions lead to one another, or to their end.
use Rattle.std.specs.Prelude.{◌≡◌, ◌≤◌, ℕ, List, Some, IfSome, slice_get, length}
use Rattle.macro_rules.specs.declared.row.Row.{Row}
use Rattle.macro_rules.specs.declared.row.Row.TheVariants as row

-- a position leads to no other behind the end
abbrev pub LeadsWithin : ℕ → Row → Type 0
LeadsWithin n (row.Begin repetition) = IfSome repetition.behind (λ s. s ≤ n)
LeadsWithin n (row.End other) = IfSome other (λ s. s ≤ n)
LeadsWithin n (row.Separator t start) = start ≤ n
LeadsWithin n _ = Unit {0}

abbrev pub IsLaidOut : List Row → Type 0
IsLaidOut rows = (i : ℕ) (r : Row) → slice_get rows i ≡ Some r → LeadsWithin (length rows) r

-- Where a rule that matched was: the visits of each position of its matcher.
use Rattle.std.specs.Prelude.{◌==◌, ◌+◌, ℕ, zero, suc, List, [], ◌∷◌, ◌++◌, Option, Some, None, slice_get, slice_set, length, if◌then◌else◌}
use Rattle.macro_rules.specs.declared.matching.Thread.{Thread}
use Rattle.macro_rules.specs.declared.visits.Passage.{Passage}
use Rattle.macro_rules.specs.declared.visits.Visit.{Visit}

abbrev pub none_or : Option (List Visit) → List Visit
none_or None = []
none_or (Some vs) = vs

-- the visits of a position, in order
abbrev pub at_row : List (List Visit) → ℕ → List Visit
at_row table r = none_or (slice_get table r)

abbrev pub visit_of : Passage → ℕ → Visit
visit_of p n = record { first = p.first; behind = p.behind; iterations = n }

-- one more visit: what it took, and how many visits the next position had before
abbrev pub noted : Passage → List (List Visit) → List (List Visit)
noted p table = slice_set table p.row (at_row table p.row ++ visit_of p (length (at_row table (p.row + 1))) ∷ [])

abbrev pub no_visits : ℕ → List (List Visit)
no_visits zero = []
no_visits (suc n) = [] ∷ no_visits n

abbrev pub passage : Thread → ℕ → Passage
passage t behind = record { row = t.row; first = t.place; behind = behind }

abbrev pub further : ℕ → Thread → ℕ → (ℕ → ℕ → List Passage) → List Passage
further at t behind before = passage t behind ∷ (if at == 0 then [] else before t.before t.place)

abbrev pub passage_at : Option Thread → ℕ → ℕ → (ℕ → ℕ → List Passage) → List Passage
passage_at None at behind before = []
passage_at (Some t) at behind before = further at t behind before

-- what each thread took that leads to the one of a number, of which the next begins at a place; the last first
abbrev pub passages_of : List Thread → ℕ → ℕ → ℕ → List Passage
passages_of log zero at behind = []
passages_of log (suc n) at behind = passage_at (slice_get log at) at behind (passages_of log n)

abbrev pub passages : List Thread → ℕ → ℕ → List Passage
passages log last place = passages_of log (length log) last place

-- those of a list, of which the last was first
abbrev pub all_noted : List Passage → List (List Visit) → List (List Visit)
all_noted [] table = table
all_noted (p ∷ ps) table = noted p (all_noted ps table)

abbrev pub visits : List Thread → ℕ → ℕ → ℕ → List (List Visit)
visits log last place rows = all_noted (passages log last place) (no_visits rows)

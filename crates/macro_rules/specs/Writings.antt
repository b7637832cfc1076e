-- What a transcriber writes.
use Rattle.std.specs.Prelude.{◌==◌, ◌+◌, ◌-◌, ◌^◌, ◌&&◌, ◌||◌, ℕ, zero, suc, Bool, true, false, List, [], ◌∷◌, ◌++◌, Option, Some, None, Result, Ok, Err, is_some, min, drop, take, slice_get, slice_set, nat_eq, nat_le, nat_lt, length, if◌then◌else◌}
use Rattle.std.specs.List.{list_any, list_all}
use Rattle.macro_rules.specs.Extents.{kind_at, tree_len, width}
use Rattle.macro_rules.specs.Visits.{at_row}
use Rattle.macro_rules.specs.Written.{Written}
use Rattle.macro_rules.specs.declared.row.Row.{Row}
use Rattle.macro_rules.specs.declared.row.Row.TheVariants as row
use Rattle.macro_rules.specs.declared.token.FragmentKind.{FragmentKind}
use Rattle.macro_rules.specs.declared.token.FragmentKind.TheVariants as of
use Rattle.macro_rules.specs.declared.token.Token.{Token}
use Rattle.macro_rules.specs.declared.token.TokenKind.{TokenKind}
use Rattle.macro_rules.specs.declared.token.TokenKind.TheVariants as kind
use Rattle.macro_rules.specs.declared.visits.Visit.{Visit}
use Rattle.macro_rules.specs.declared.writing.Leader.{Leader}
use Rattle.macro_rules.specs.declared.writing.Level.{Level}
use Rattle.macro_rules.specs.declared.writing.WriteFault.{WriteFault}
use Rattle.macro_rules.specs.declared.writing.WriteFault.TheVariants as fault

abbrev pub kind_number : FragmentKind → ℕ
kind_number of.Ident = 0
kind_number of.Lifetime = 1
kind_number of.Tt = 2
kind_number of.Literal = 3
kind_number of.Vis = 4
kind_number of.Block = 5
kind_number of.Path = 6
kind_number of.Ty = 7
kind_number of.Meta = 8
kind_number of.Item = 9
kind_number of.Expr = 10
kind_number of.Expr2021 = 10
kind_number of.Pat = 12
kind_number of.PatParam = 12
kind_number of.Stmt = 14

abbrev pub has_kind : FragmentKind → TokenKind → Bool
has_kind k (kind.FragmentOpen own) = kind_number k == kind_number own
has_kind k _ = false

-- a name, a lifetime and a tree are put back as they are, and so is what is one fragment of its kind already
abbrev pub stays : FragmentKind → List Token → Bool
stays k piece = nat_lt (kind_number k) 3 || (has_kind k (kind_at piece 0) && (tree_len 0 piece == length piece))

abbrev pub mark_of : TokenKind → TokenKind
mark_of (kind.Pair first second) = kind.Mark first
mark_of (kind.Triple first second third) = kind.Mark first
mark_of k = k

-- its first mark alone
abbrev pub first_mark : Token → Token
first_mark t = record { kind = mark_of t.kind; span = record { start = t.span.start; len = 1 } }

abbrev pub parted_at : Token → ℕ → Token
parted_at t size = if nat_lt size (width t.kind) then first_mark t else t

-- an operator whose marks were not all taken is single marks
abbrev pub parted : List Token → List Token
parted [] = []
parted (t ∷ ts) = parted_at t (length ts + 1) ∷ parted ts

abbrev pub flat : Option (Option ℕ) → Option ℕ
flat None = None
flat (Some number) = number

-- the iteration of the innermost repetition of the matcher around something, if it is led there; outside of all there is one
abbrev pub iteration : List (Option ℕ) → Option ℕ → Option ℕ
iteration current None = Some 0
iteration current (Some begin) = flat (slice_get current begin)

-- the tokens of a visit
abbrev pub taken : List Token → Visit → List Token
taken input v = take (v.behind - v.first) (drop v.first input)

abbrev pub outside : Option Row → Option ℕ
outside (Some (row.Variable v)) = v.within
outside (Some (row.Begin repetition)) = repetition.within
outside _ = None

abbrev pub iterations_or : Option Visit → ℕ → ℕ
iterations_or None all = all
iterations_or (Some v) all = v.iterations

abbrev pub behind_in : List (List Visit) → ℕ → ℕ → Option (List Visit) → ℕ
behind_in table repetition number None = 0
behind_in table repetition number (Some visits) = iterations_or (slice_get (drop number visits) 1) (length (at_row table (repetition + 1)))

-- how many iterations a repetition has had behind its visit of a number: as many as before the next, or all
abbrev pub iterations_behind : List (List Visit) → ℕ → ℕ → ℕ
iterations_behind table repetition number = behind_in table repetition number (slice_get table repetition)

abbrev pub leader_of : ℕ → ℕ → ℕ → Leader
leader_of repetition first count = record { repetition = repetition; first = first; count = count }

abbrev pub leader_by : List (List Visit) → ℕ → ℕ → Option Visit → Leader
leader_by table repetition number None = leader_of repetition 0 0
leader_by table repetition number (Some v) = leader_of repetition v.iterations (iterations_behind table repetition number - v.iterations)

-- the iterations of a repetition at its visit of a number
abbrev pub leader_at : List (List Visit) → ℕ → ℕ → Leader
leader_at table repetition number = leader_by table repetition number (slice_get (at_row table repetition) number)

abbrev pub leader_in : List (List Visit) → ℕ → Option ℕ → Leader
leader_in table repetition None = leader_of repetition 0 0
leader_in table repetition (Some number) = leader_at table repetition number

-- the iterations of a repetition of the matcher in the iteration of the one around it
abbrev pub leader : List Row → List (List Visit) → List (Option ℕ) → ℕ → Leader
leader matcher table current repetition = leader_in table repetition (iteration current (outside (slice_get matcher repetition)))

abbrev pub up_from : List Row → List (Option ℕ) → Option ℕ → Option ℕ → (Option ℕ → Option ℕ → Option ℕ) → Option ℕ
up_from matcher current found None further = found
up_from matcher current found (Some begin) further =
    if is_some (iteration current (Some begin)) then found else further (Some begin) (outside (slice_get matcher begin))

-- of the repetitions around something, going out so many steps: the outermost within the innermost that is led
abbrev pub found_from : List Row → List (Option ℕ) → ℕ → Option ℕ → Option ℕ → Option ℕ
found_from matcher current zero found around = found
found_from matcher current (suc n) found around = up_from matcher current found around (found_from matcher current n)

abbrev pub find_leader : List Row → List (Option ℕ) → Option ℕ → Option ℕ
find_leader matcher current within = found_from matcher current (length matcher) None within

abbrev pub failed : WriteFault → Written → Written
failed f w = record w { fault = Some f }

abbrev pub all_written : List Token → Written → Written
all_written ts w = record w { tokens = w.tokens ++ ts }

abbrev pub going_on : ℕ → Written → Written
going_on next w = record w { at = next }

abbrev pub written : Token → ℕ → Written → Written
written t next w = going_on next (all_written (t ∷ []) w)

abbrev pub border : TokenKind → Token
border k = record { kind = k; span = record { start = 0; len = 0 } }

-- a fragment, with its borders where it stays one tree
abbrev pub fragment : FragmentKind → List Token → List Token
fragment k piece =
    if stays k piece then piece else border (kind.FragmentOpen k) ∷ (parted piece ++ border (kind.FragmentClose k) ∷ [])

abbrev pub fragment_written : FragmentKind → List Token → Written → Written
fragment_written k piece w = all_written (fragment k piece) w

abbrev pub capture_in : List (List Visit) → ℕ → Option ℕ → Option Visit
capture_in table r None = None
capture_in table r (Some number) = slice_get (at_row table r) number

-- what a variable captured in the iteration that is led
abbrev pub capture_of : List (List Visit) → List (Option ℕ) → ℕ → Option ℕ → Option Visit
capture_of table current r within = capture_in table r (iteration current within)

abbrev pub visit_written : FragmentKind → List Token → Option Visit → Written → Written
visit_written k input None w = failed fault.StillRepeats w
visit_written k input (Some v) w = fragment_written k (taken input v) w

abbrev pub capture_written : Option Row → List (List Visit) → List Token → ℕ → Written → Written
capture_written (Some (row.Variable v)) table input r w = visit_written v.kind input (capture_of table w.current r v.within) w
capture_written _ table input r w = failed fault.StillRepeats w

abbrev pub leads_in : List Leader → ℕ → Bool
leads_in leaders repetition = list_any (λ (l : Leader). nat_eq l.repetition repetition) leaders

abbrev pub leads : List Leader → ℕ → ℕ → Bool
leads leaders from repetition = leads_in (drop from leaders) repetition

-- each repetition of the matcher leads once
abbrev pub leader_added : ℕ → Leader → Written → Written
leader_added from l w = if leads w.leaders from l.repetition then w else record w { leaders = w.leaders ++ l ∷ [] }

abbrev pub leader_found : List Row → List (List Visit) → ℕ → Option ℕ → Written → Written
leader_found matcher table from None w = w
leader_found matcher table from (Some repetition) w = leader_added from (leader matcher table w.current repetition) w

-- a variable that is captured more often than there are repetitions open leads
abbrev pub leader_of_added : List Row → List (List Visit) → ℕ → Row → Written → Written
leader_of_added matcher table from (row.Capture v) w =
    leader_found matcher table from (find_leader matcher w.current (outside (slice_get matcher v))) w
leader_of_added matcher table from _ w = w

abbrev pub gathered : List Row → List (List Visit) → ℕ → List Row → Written → Written
gathered matcher table from [] w = w
gathered matcher table from (r ∷ rows) w = gathered matcher table from rows (leader_of_added matcher table from r w)

abbrev pub agree : ℕ → List Leader → Bool
agree n leaders = list_all (λ (l : Leader). nat_eq l.count n) leaders

-- how often a repetition is written: as often as each of its leaders has iterations
abbrev pub common : List Leader → Result ℕ WriteFault
common [] = Err fault.NothingRepeats
common (l ∷ leaders) = if agree l.count leaders then Ok l.count else Err fault.Uneven

-- as far as numbers go
abbrev pub plus : ℕ → ℕ → ℕ
plus a b = min (a + b) (2 ^ 64 - 1)

-- the leaders stand at an iteration, counted from their first
abbrev pub led : List Leader → ℕ → List (Option ℕ) → List (Option ℕ)
led [] index current = current
led (l ∷ leaders) index current = led leaders index (slice_set current l.repetition (Some (plus l.first index)))

-- and lead no longer
abbrev pub unled : List Leader → List (Option ℕ) → List (Option ℕ)
unled [] current = current
unled (l ∷ leaders) current = unled leaders (slice_set current l.repetition None)

abbrev pub level : ℕ → ℕ → ℕ → ℕ → Level
level begin index count leaders = record { begin = begin; index = index; count = count; leaders = leaders }

abbrev pub skipped_to : Option ℕ → ℕ → Written → Written
skipped_to None from w = failed fault.NeedsOne w
skipped_to (Some behind) from w = record w { leaders = take from w.leaders; at = behind }

abbrev pub started : ℕ → ℕ → ℕ → Written → Written
started begin from count w = record w {
  levels = w.levels ++ level begin 0 count from ∷ [];
  current = led (drop from w.leaders) 0 w.current;
  at = begin + 1;
}

abbrev pub opened_by : Result ℕ WriteFault → ℕ → Option ℕ → ℕ → Written → Written
opened_by (Err f) begin behind from w = failed f w
opened_by (Ok count) begin behind from w = if count == 0 then skipped_to behind from w else started begin from count w

abbrev pub opened_with : ℕ → Option ℕ → ℕ → Written → Written
opened_with begin behind from w = opened_by (common (drop from w.leaders)) begin behind from w

-- a repetition begins: it is written as often as its leaders repeat, and passed over where that is never
abbrev pub opened : List Row → List (List Visit) → ℕ → Option ℕ → List Row → Written → Written
opened matcher table begin behind body w = opened_with begin behind (length w.leaders) (gathered matcher table (length w.leaders) body w)

abbrev pub is_separator : Option Row → Bool
is_separator (Some (row.Separator t start)) = true
is_separator _ = false

abbrev pub again : Level → ℕ → Bool → Written → Written
again l at separated w = record w {
  levels = w.levels ++ level l.begin (l.index + 1) l.count l.leaders ∷ [];
  current = led (drop l.leaders w.leaders) (l.index + 1) w.current;
  at = if separated then at + 1 else plus l.begin 1;
}

abbrev pub left_level : Level → ℕ → Bool → Written → Written
left_level l at separated w = record w {
  leaders = take l.leaders w.leaders;
  current = unled (drop l.leaders w.leaders) w.current;
  at = if separated then at + 2 else at + 1;
}

abbrev pub ended_at : Option Level → ℕ → Bool → Written → Written
ended_at None at separated w = failed fault.NothingRepeats w
ended_at (Some l) at separated w = if nat_lt 1 (l.count - l.index) then again l at separated w else left_level l at separated w

abbrev pub without_last : Written → Written
without_last w = record w { levels = take (length w.levels - 1) w.levels }

-- an iteration ends: the next one starts behind the separator, or the repetition ends
abbrev pub ended : ℕ → Bool → Written → Written
ended at separated w = ended_at (slice_get w.levels (length w.levels - 1)) at separated (without_last w)

-- the positions from one up to another
abbrev pub between : ℕ → ℕ → List Row → List Row
between from end rows = take (end - from) (drop from rows)

abbrev pub step_at : Option Row → List Row → List Row → List (List Visit) → List Token → Written → Written
step_at None rows matcher table input w = w
step_at (Some (row.Token t)) rows matcher table input w = written t (w.at + 1) w
step_at (Some (row.Variable v)) rows matcher table input w = going_on (w.at + 1) w
step_at (Some (row.Capture r)) rows matcher table input w = going_on (w.at + 1) (capture_written (slice_get matcher r) table input r w)
step_at (Some (row.Begin repetition)) rows matcher table input w =
    opened matcher table w.at repetition.behind (between w.at repetition.end rows) w
step_at (Some row.Iteration) rows matcher table input w = going_on (w.at + 1) w
step_at (Some (row.End other)) rows matcher table input w = ended w.at (is_separator (slice_get rows (w.at + 1))) w
step_at (Some (row.Separator t start)) rows matcher table input w = written t start w

-- one position of a transcriber
unfoldable pub step : List Row → List Row → List (List Visit) → List Token → Written → Written
step rows matcher table input w = step_at (slice_get rows w.at) rows matcher table input w

abbrev pub is_done : List Row → Written → Bool
is_done rows w = is_some w.fault || nat_le (length rows) w.at

-- so many of them, or all
abbrev pub steps : List Row → List Row → List (List Visit) → List Token → ℕ → Written → Written
steps rows matcher table input zero w = if is_done rows w then w else failed fault.TooGreat w
steps rows matcher table input (suc n) w = if is_done rows w then w else steps rows matcher table input n (step rows matcher table input w)

abbrev pub idle : ℕ → List (Option ℕ)
idle zero = []
idle (suc n) = None ∷ idle n

abbrev pub nothing_written : ℕ → Written
nothing_written rows = record { tokens = []; levels = []; leaders = []; current = idle rows; at = 0; fault = None }

-- what a transcriber writes, in at most so many steps
abbrev pub transcribed : List Row → List Row → List (List Visit) → List Token → ℕ → Written
transcribed rows matcher table input limit = steps rows matcher table input limit (nothing_written (length matcher))

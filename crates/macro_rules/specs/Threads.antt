-- Sets of positions: the threads at a place of the input are the end of a list of threads.
use Rattle.std.specs.Prelude.{◌==◌, ◌+◌, ◌<◌, ◌&&◌, ℕ, zero, suc, Bool, false, List, [], ◌∷◌, ◌++◌, Option, Some, None, is_some, drop, slice_get, position, nat_lt, nat_eq, length, count_by, if◌then◌else◌}
use Rattle.macro_rules.specs.Beginnings.{begins}
use Rattle.macro_rules.specs.Fragments.{fragment_len}
use Rattle.macro_rules.specs.Tokens.{same}
use Rattle.macro_rules.specs.declared.matching.Outcome.{Outcome}
use Rattle.macro_rules.specs.declared.matching.Outcome.TheVariants as outcome
use Rattle.macro_rules.specs.declared.matching.Thread.{Thread}
use Rattle.macro_rules.specs.declared.matching.Turn.{Turn}
use Rattle.macro_rules.specs.declared.matching.Turn.TheVariants as turn
use Rattle.macro_rules.specs.declared.matching.Ways.{Ways}
use Rattle.macro_rules.specs.declared.row.Row.{Row}
use Rattle.macro_rules.specs.declared.row.Row.TheVariants as row
use Rattle.macro_rules.specs.declared.token.Token.{Token}

abbrev pub thread_at : ℕ → ℕ → ℕ → Thread
thread_at r place before = record { row = r; place = place; before = before }

abbrev pub standing : ℕ → List Thread → ℕ
standing r threads = count_by (λ (t : Thread). nat_eq t.row r) threads

-- a thread is added unless two stand at its position: of three, two tell that they are more than one
abbrev pub entered : ℕ → Thread → List Thread → List Thread
entered from t log = if nat_lt (standing t.row (drop from log)) 2 then log ++ t ∷ [] else log

abbrev pub both : ℕ → Option ℕ → Ways
both r other = record { next = Some (r + 1); other = other }

-- without a token: from the begin of a repetition into it, and behind it where it may be left out; from the start of an
-- iteration on; from its end behind the repetition, and to its separator or to the next iteration
abbrev pub ways_from : Option Row → ℕ → Ways
ways_from (Some (row.Begin repetition)) r = both r repetition.behind
ways_from (Some (row.End other)) r = both r other
ways_from (Some row.Iteration) r = both r None
ways_from _ r = record { next = None; other = None }

abbrev pub gone : ℕ → Option ℕ → ℕ → ℕ → List Thread → List Thread
gone from None place before log = log
gone from (Some r) place before log = entered from (thread_at r place before) log

abbrev pub followed_to : Ways → ℕ → ℕ → ℕ → List Thread → List Thread
followed_to w from at place log = gone from w.other place at (gone from w.next place at log)

abbrev pub followed : List Row → ℕ → ℕ → ℕ → Option Thread → List Thread → List Thread
followed rows from at place None log = log
followed rows from at place (Some t) log = followed_to (ways_from (slice_get rows t.row) t.row) from at place log

-- the closure of the threads from a number on: so many of them are followed, in their order
abbrev pub closed : List Row → ℕ → ℕ → ℕ → ℕ → List Thread → List Thread
closed rows from place zero at log = log
closed rows from place (suc n) at log =
    if nat_lt at (length log) then closed rows from place n (at + 1) (followed rows from at place (slice_get log at) log) else log

-- the position behind a token, where one that equals it stands at the position
abbrev pub behind_token : List ℕ → Token → Option Row → ℕ → Option ℕ
behind_token bytes x (Some (row.Token t)) r = if same bytes t x then Some (r + 1) else None
behind_token bytes x (Some (row.Separator t start)) r = if same bytes t x then Some start else None
behind_token bytes x _ r = None

-- a fragment of the variable at a position may begin the tokens
abbrev pub reads : Option Row → List Token → Bool
reads (Some (row.Variable v)) ts = begins v.kind ts
reads _ ts = false

abbrev pub count_taking : List ℕ → List Row → Token → List Thread → ℕ
count_taking bytes rows x threads = count_by (λ (t : Thread). is_some (behind_token bytes x (slice_get rows t.row) t.row)) threads

abbrev pub count_reading : List Row → List Token → List Thread → ℕ
count_reading rows ts threads = count_by (λ (t : Thread). reads (slice_get rows t.row) ts) threads

abbrev pub first_reading : List Row → List Token → List Thread → Option ℕ
first_reading rows ts threads = position (λ (t : Thread). reads (slice_get rows t.row) ts) threads

abbrev pub first_standing : ℕ → List Thread → Option ℕ
first_standing r threads = position (λ (t : Thread). nat_eq t.row r) threads

-- what so many that read and so many that take a token do: a fragment is read where nothing else could go on
abbrev pub reads_by : Option ℕ → Turn
reads_by None = turn.Fails
reads_by (Some i) = turn.Reads i

abbrev pub turn_of : ℕ → ℕ → Option ℕ → Turn
turn_of readers takers reader =
    if readers == 0 then (if takers == 0 then turn.Fails else turn.Takes)
    else if (readers == 1) && (takers == 0) then reads_by reader
    else turn.Ambiguous

unfoldable pub turn_at : List ℕ → List Row → List Token → List Thread → Token → Turn
turn_at bytes rows rest threads x = turn_of (count_reading rows rest threads) (count_taking bytes rows x threads) (first_reading rows rest threads)

-- a thread that reads is one of so many
abbrev pub IsWithin : ℕ → Turn → Type 0
IsWithin n (turn.Reads i) = i < n
IsWithin n _ = Unit {0}

abbrev pub ends_by : ℕ → ℕ → Option ℕ → Outcome
ends_by from place None = outcome.Fails place
ends_by from place (Some i) = outcome.Matches (from + i)

-- at the end of the input: one thread at the end of the matcher matches
abbrev pub at_end : ℕ → ℕ → ℕ → List Thread → Outcome
at_end end from place threads =
    if nat_lt 1 (standing end threads) then outcome.Ambiguous place else ends_by from place (first_standing end threads)

abbrev pub token_way : List ℕ → List Row → Token → Option Thread → Option ℕ
token_way bytes rows x None = None
token_way bytes rows x (Some t) = behind_token bytes x (slice_get rows t.row) t.row

-- so many threads from a number on take the token: those behind it stand from a number on
abbrev pub taken : List ℕ → List Row → Token → ℕ → ℕ → ℕ → ℕ → List Thread → List Thread
taken bytes rows x behind place zero at log = log
taken bytes rows x behind place (suc n) at log =
    taken bytes rows x behind place n (at + 1) (gone behind (token_way bytes rows x (slice_get log at)) place at log)

abbrev pub variable_len : Option Row → List Token → Option ℕ
variable_len (Some (row.Variable v)) ts = fragment_len v.kind ts
variable_len _ ts = None

abbrev pub row_of : Option Thread → ℕ
row_of None = 0
row_of (Some t) = t.row

abbrev pub behind_fragment : ℕ → Option ℕ → Option ℕ
behind_fragment place None = None
behind_fragment place (Some len) = Some (place + len)

-- where the fragment ends that a thread reads
abbrev pub fragment_end : List Row → ℕ → List Token → Option Thread → Option ℕ
fragment_end rows place ts t = behind_fragment place (variable_len (slice_get rows (row_of t)) ts)

abbrev pub with_read : ℕ → ℕ → Option ℕ → List Thread → List Thread
with_read r reader None log = log
with_read r reader (Some end) log = log ++ thread_at (r + 1) end reader ∷ []

-- and the thread behind it
abbrev pub with_reader : List Row → ℕ → List Token → ℕ → Option Thread → List Thread → List Thread
with_reader rows place ts reader t log = with_read (row_of t) reader (fragment_end rows place ts t) log

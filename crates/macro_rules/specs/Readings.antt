-- Matchers and transcribers, read into rows: each token in turn.
use Rattle.std.specs.Prelude.{◌==◌, ◌+◌, ◌-◌, ◌&&◌, ◌||◌, ℕ, Bool, true, false, not, List, [], ◌∷◌, ◌++◌, Option, Some, None, is_none, is_some, take, slice_get, slice_set, position, nat_le, nat_lt, length, if◌then◌else◌}
use Rattle.std.specs.Str.{bytes_eq}
use Rattle.dm_base.specs.declared.edition.Edition.{Edition}
use Rattle.item_tree.specs.Spans.{name_text, piece}
use Rattle.item_tree.specs.declared.lexer.lexeme.Delimiter.TheVariants.{Parenthesis, Brace}
use Rattle.item_tree.specs.declared.lexer.word.Word.TheVariants as word
use Rattle.macro_rules.specs.Extents.{kind_at, is_mark, width}
use Rattle.macro_rules.specs.Read.{Read}
use Rattle.macro_rules.specs.declared.reading.Opening.{Opening}
use Rattle.macro_rules.specs.declared.reading.RuleFault.{RuleFault}
use Rattle.macro_rules.specs.declared.reading.RuleFault.TheVariants as fault
use Rattle.macro_rules.specs.declared.reading.Tail.{Tail}
use Rattle.macro_rules.specs.declared.row.Row.{Row}
use Rattle.macro_rules.specs.declared.row.Row.TheVariants as row
use Rattle.macro_rules.specs.FragmentNames.{kind_named}
use Rattle.macro_rules.specs.declared.token.FragmentKind.{FragmentKind}
use Rattle.macro_rules.specs.declared.token.FragmentKind.TheVariants as of
use Rattle.macro_rules.specs.declared.reading.dollars.Part.{Part}
use Rattle.macro_rules.specs.declared.token.Token.{Token}
use Rattle.macro_rules.specs.declared.token.TokenKind.{TokenKind}
use Rattle.macro_rules.specs.declared.token.TokenKind.TheVariants as kind

-- `*`, `+`, or `?`, which has no separator
abbrev pub tail_of : TokenKind → Bool → Option Tail
tail_of k separated =
    if is_mark 42 k then Some (record { skips = true; again = true; separated = separated })
    else if is_mark 43 k then Some (record { skips = false; again = true; separated = separated })
    else if is_mark 63 k && not separated then Some (record { skips = true; again = false; separated = separated })
    else None

abbrev pub or_else : Option Tail → Option Tail → Option Tail
or_else None other = other
or_else (Some t) other = Some t

-- an operator behind the closing delimiter, or a separator and an operator
abbrev pub tail : List Token → Option Tail
tail ts = or_else (tail_of (kind_at ts 1) false) (tail_of (kind_at ts 2) true)

abbrev pub nothing_read : Read
nothing_read = record { rows = []; groups = []; state = record { skipped = 0; within = None; bare = true; fault = None } }

abbrev pub failed : RuleFault → Read → Read
failed f r = record r { state = record r.state { fault = Some f } }

-- one more position, which takes a token, and some tokens behind it that belong to it
abbrev pub added : Row → ℕ → Read → Read
added p skipped r = record r { rows = r.rows ++ p ∷ []; state = record r.state { skipped = skipped; bare = false } }

-- a group is its delimiters and what stands within
abbrev pub group_opened : Token → Read → Read
group_opened t r = record r {
  rows = r.rows ++ row.Token t ∷ [];
  groups = r.groups ++ record { repetition = None; within = r.state.within; bare = false } ∷ [];
  state = record r.state { skipped = 0; bare = false };
}

abbrev pub begin_of : ℕ → Option ℕ → Option ℕ → Row
begin_of end behind within = row.Begin (record { end = end; behind = behind; within = within })

-- a repetition begins, and its first iteration starts; the delimiter behind `$` is its own. In a transcriber it may be empty
abbrev pub repetition_opened : Bool → Read → Read
repetition_opened is_matcher r = record r {
  rows = (r.rows ++ begin_of (length r.rows) None r.state.within ∷ []) ++ row.Iteration ∷ [];
  groups = r.groups ++ record { repetition = Some (length r.rows); within = r.state.within; bare = r.state.bare } ∷ [];
  state = record r.state { skipped = 1; within = Some (length r.rows); bare = is_matcher };
}

-- an iteration ends: behind it stands the separator, and behind that what follows; or it starts anew
abbrev pub ends : ℕ → Tail → Token → ℕ → List Row
ends begin t separator at =
    if t.separated then row.End (Some (at + 2)) ∷ row.Separator separator (begin + 1) ∷ []
    else if t.again then row.End (Some (begin + 1)) ∷ []
    else row.End None ∷ []

abbrev pub ended : ℕ → Tail → Token → Read → Read
ended begin t separator r = record r { rows = r.rows ++ ends begin t separator (length r.rows) }

abbrev pub end_noted : ℕ → ℕ → Tail → Option ℕ → Read → Read
end_noted begin end t within r =
    record r { rows = slice_set r.rows begin (begin_of end (if t.skips then Some (length r.rows) else None) within) }

abbrev pub left_group : Opening → Tail → Bool → Read → Read
left_group o t bare r = record r {
  state = record r.state { skipped = if t.separated then 2 else 1; within = o.within; bare = o.bare && (t.skips || bare) };
}

-- what is repeated without a separator is not empty; where all in a group may be empty, so may the group
abbrev pub repetition_closed : ℕ → Opening → Tail → Token → Read → Read
repetition_closed begin o t separator r =
    if nat_le (length r.rows) begin || (r.state.bare && not t.separated)
    then failed fault.EmptyRepetition r
    else left_group o t r.state.bare (end_noted begin (length r.rows) t o.within (ended begin t separator r))

abbrev pub token_or : Option Token → Token → Token
token_or None other = other
token_or (Some t) other = t

abbrev pub token_at : List Token → ℕ → Token → Token
token_at ts at other = token_or (slice_get ts at) other

-- an operator that has a token for each mark is not read as a separator
abbrev pub fault_of : TokenKind → RuleFault
fault_of k = if nat_lt 1 (width k) then fault.Unsupported else fault.BadRule

abbrev pub closed_with : Option Tail → ℕ → Opening → Token → List Token → Read → Read
closed_with None begin o token ts r = failed (fault_of (kind_at ts 1)) r
closed_with (Some t) begin o token ts r = repetition_closed begin o t (token_at ts 1 token) r

abbrev pub closed_by : Option ℕ → Opening → Token → List Token → Read → Read
closed_by None o token ts r = added (row.Token token) 0 r
closed_by (Some begin) o token ts r = closed_with (tail ts) begin o token ts r

abbrev pub without_last : Read → Read
without_last r = record r { groups = take (length r.groups - 1) r.groups }

abbrev pub closed_group : Option Opening → Token → List Token → Read → Read
closed_group None token ts r = failed fault.BadRule r
closed_group (Some o) token ts r = closed_by o.repetition o token ts (without_last r)

-- the innermost open group ends
abbrev pub group_closed : Token → List Token → Read → Read
group_closed token ts r = closed_group (slice_get r.groups (length r.groups - 1)) token ts r

-- the position of the variable of a name
abbrev pub names : List ℕ → Token → Row → Bool
names bytes name (row.Variable v) = bytes_eq (name_text bytes v.name.span) (name_text bytes name.span)
names bytes name _ = false

abbrev pub found : List ℕ → List Row → Token → Option ℕ
found bytes rows name = position (names bytes name) rows

abbrev pub is_vis : FragmentKind → Bool
is_vis of.Vis = true
is_vis _ = false

abbrev pub variable_of : Token → FragmentKind → Option ℕ → Row
variable_of name kind within = row.Variable (record { name = name; kind = kind; within = within })

-- a variable; one of a visibility may be empty
abbrev pub variable_added : Token → FragmentKind → Read → Read
variable_added name kind r = record r {
  rows = r.rows ++ variable_of name kind r.state.within ∷ [];
  state = record r.state { skipped = 3; bare = r.state.bare && is_vis kind };
}

abbrev pub variable_with : List ℕ → Token → Option FragmentKind → Read → Read
variable_with bytes name None r = failed fault.NoKind r
variable_with bytes name (Some kind) r =
    if is_some (found bytes r.rows name) then failed fault.TwoOfAName r else variable_added name kind r

-- `$name:kind`, behind the `$`
abbrev pub variable_read : List ℕ → Edition → Token → List Token → Read → Read
variable_read bytes edition name ts r =
    if is_mark 58 (kind_at ts 2) then variable_with bytes name (kind_named edition (piece bytes (token_at ts 3 name).span)) r
    else failed fault.NoKind r

abbrev pub captured : Token → Option ℕ → Read → Read
captured token None r = added (row.Token token) 0 r
captured token (Some v) r = added (row.Capture v) 1 r

-- `$name`: in a matcher a variable, in a transcriber what it captured, or these two tokens
abbrev pub name_read : Part → List ℕ → List Row → Token → Token → List Token → Read → Read
name_read p bytes matcher token name ts r =
    if p.is_matcher then variable_read bytes p.home.edition name ts r else captured token (found bytes matcher name) r

abbrev pub dollar_crate : ℕ → Token → Row
dollar_crate krate t = row.Token (record { kind = kind.DollarCrate krate; span = t.span })

-- `$$` is not read; at the end a `$` is itself; before anything else it is nothing
abbrev pub other_read : TokenKind → Token → ℕ → Read → Read
other_read k token len r =
    if is_mark 36 k then failed fault.Unsupported r
    else if nat_lt 1 len then failed fault.BadRule r
    else added (row.Token token) 0 r

abbrev pub dollar_before : TokenKind → Part → List ℕ → List Row → Token → List Token → Read → Read
dollar_before (kind.Open Parenthesis) p bytes matcher token ts r = repetition_opened p.is_matcher r
dollar_before (kind.Open Brace) p bytes matcher token ts r = failed fault.Unsupported r
dollar_before (kind.Word word.Crate) p bytes matcher token ts r = added (dollar_crate p.home.krate (token_at ts 1 token)) 1 r
dollar_before (kind.Word w) p bytes matcher token ts r = name_read p bytes matcher token (token_at ts 1 token) ts r
dollar_before (kind.Keyword w) p bytes matcher token ts r = name_read p bytes matcher token (token_at ts 1 token) ts r
dollar_before (kind.Close d) p bytes matcher token ts r = added (row.Token token) 0 r
dollar_before k p bytes matcher token ts r = other_read k token (length ts) r

-- a `$` begins a repetition, `$crate`, a variable, or what is not read; at the end of a group it is itself
unfoldable pub dollar_read : Part → List ℕ → List Row → Token → List Token → Read → Read
dollar_read p bytes matcher token ts r = dollar_before (kind_at ts 1) p bytes matcher token ts r

abbrev pub is_doc : TokenKind → Bool
is_doc kind.Doc = true
is_doc _ = false

-- the tokens behind the first of a doc comment; of other attributes none
abbrev pub doc_len : List Token → ℕ
doc_len ts = if is_doc (kind_at ts 4) then 5 else if is_mark 33 (kind_at ts 1) && is_doc (kind_at ts 5) then 6 else 0

abbrev pub skipping : ℕ → Read → Read
skipping n r = record r { state = record r.state { skipped = n } }

-- in a matcher a doc comment counts as nothing
abbrev pub hash_read : Bool → Token → List Token → Read → Read
hash_read is_matcher token ts r =
    if is_matcher && not (doc_len ts == 0) then skipping (doc_len ts) r else added (row.Token token) 0 r

abbrev pub kind_read : TokenKind → Part → List ℕ → List Row → Token → List Token → Read → Read
kind_read (kind.Open d) p bytes matcher token ts r = group_opened token r
kind_read (kind.Close d) p bytes matcher token ts r = group_closed token ts r
kind_read k p bytes matcher token ts r =
    if is_mark 36 k then dollar_read p bytes matcher token ts r
    else if is_mark 35 k then hash_read p.is_matcher token ts r
    else added (row.Token token) 0 r

-- one token is read, unless something was wrong before, or it belongs to what was read before
unfoldable pub one_read : Part → List ℕ → List Row → Token → List Token → Read → Read
one_read p bytes matcher token ts r =
    if is_some r.state.fault then r
    else if not (r.state.skipped == 0) then skipping (r.state.skipped - 1) r
    else kind_read token.kind p bytes matcher token ts r

abbrev pub all_read : Part → List ℕ → List Row → List Token → Read → Read
all_read p bytes matcher [] r = r
all_read p bytes matcher (t ∷ ts) r = all_read p bytes matcher ts (one_read p bytes matcher t (t ∷ ts) r)

-- groups are closed where the tokens end, and nothing is lacking
abbrev pub at_end : Read → Read
at_end r =
    if is_none r.state.fault && (not (length r.groups == 0) || not (r.state.skipped == 0)) then failed fault.BadRule r else r

abbrev pub rows_read : Part → List ℕ → List Row → List Token → Read
rows_read p bytes matcher ts = at_end (all_read p bytes matcher ts nothing_read)

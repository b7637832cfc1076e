-- How the attributes of a file are found, lexeme by lexeme.
use Rattle.std.specs.Prelude.{◌==◌, ◌+◌, ◌-◌, ◌&&◌, ℕ, Bool, true, false, not, List, [], ◌∷◌, ◌++◌, Option, Some, None, length, take, slice_get, if◌then◌else◌}
use Rattle.item_tree.specs.declared.lexer.word.Word.{Word}
use Rattle.item_tree.specs.declared.lexer.word.Word.TheVariants as word
use Rattle.item_tree.specs.declared.lexer.lexeme.Delimiter.TheVariants.{Parenthesis, Bracket}
use Rattle.item_tree.specs.declared.lexer.lexeme.LexemeKind.{LexemeKind}
use Rattle.item_tree.specs.declared.lexer.lexeme.LexemeKind.TheVariants as kind
use Rattle.item_tree.specs.declared.lexer.lexeme.Lexeme.{Lexeme}
use Rattle.item_tree.specs.declared.attributes.attribute_reader.AttributePlace.{AttributePlace}
use Rattle.item_tree.specs.declared.attributes.attribute_reader.ConditionPlace.{ConditionPlace}
use Rattle.item_tree.specs.declared.attributes.attribute_reader.AttributeLevel.{AttributeLevel}
use Rattle.item_tree.specs.declared.attributes.attribute_reader.AttributeLevel.TheVariants.{Group, Wrapped}
use Rattle.item_tree.specs.declared.attributes.attribute_reader.AttributePhase.{AttributePhase}
use Rattle.item_tree.specs.declared.attributes.attribute_reader.AttributePhase.TheVariants.{Outside, Hash, Bang, Start, Named, Input, Predicate, Behind}

-- a file that is read in part: the attributes and conditions found, the brackets open in an attribute, the condition
-- that holds there, whether it is an inner one, and what is being read
pub record Reading : Type 0 where
  pub attributes : List AttributePlace
  pub conditions : List ConditionPlace
  pub levels : List AttributeLevel
  pub condition : Option ℕ
  pub inner : Bool
  pub phase : AttributePhase

-- before the first lexeme
abbrev pub start : Reading
start = record { attributes = []; conditions = []; levels = []; condition = None; inner = false; phase = Outside }

abbrev pub is_group : Option AttributeLevel → Bool
is_group None = false
is_group (Some Group) = true
is_group (Some (Wrapped outer)) = false

-- the innermost brackets belong to an attribute or a predicate
abbrev pub is_in_group : Reading → Bool
is_in_group r = is_group (slice_get r.levels (length r.levels - 1))

abbrev pub found : Word → ℕ → ℕ → Reading → Reading
found name first end r = record r { attributes = r.attributes ++ record { name = name; inner = r.inner; condition = r.condition; input = record { first = first; behind = end } } ∷ [] }

-- an attribute that is being read ends before the lexeme of a number
abbrev pub finished_from : AttributePhase → ℕ → Reading → Reading
finished_from Outside end r = r
finished_from Hash end r = r
finished_from Bang end r = r
finished_from Start end r = r
finished_from (Named name s) end r = found name s end r
finished_from (Input name s) end r = found name s end r
finished_from (Predicate p) end r = r
finished_from Behind end r = r

abbrev pub finished : ℕ → Reading → Reading
finished end r = finished_from r.phase end r

-- brackets close: those of the whole attribute, some in it, or those of `cfg_attr` or `unsafe`, behind which the
-- condition around them holds again
abbrev pub closed_from : Option AttributeLevel → Reading → Reading
closed_from None r = record r { condition = None; phase = Outside }
closed_from (Some Group) r = r
closed_from (Some (Wrapped outer)) r = record r { condition = outer; phase = Behind }

abbrev pub closed : Reading → Reading
closed r = closed_from (slice_get r.levels (length r.levels - 1)) (record r { levels = take (length r.levels - 1) r.levels })

abbrev pub opened : AttributeLevel → AttributePhase → Reading → Reading
opened level phase r = record r { levels = r.levels ++ level ∷ []; phase = phase }

-- a predicate is read: what follows it stands under it
abbrev pub conditioned : ℕ → ℕ → Reading → Reading
conditioned first end r = record r {
  conditions = r.conditions ++ record { outer = r.condition; predicate = record { first = first; behind = end } } ∷ [];
  condition = Some (length r.conditions);
  phase = Start;
}

abbrev pub to : AttributePhase → Reading → Reading
to phase r = record r { phase = phase }

-- where no attribute is, a `#` may begin one
abbrev pub outside : LexemeKind → Reading → Reading
outside (kind.Mark b) r = to (if b == 35 then Hash else Outside) r
outside _ r = to Outside r

-- behind `#`, or behind `#!` in an inner one, a bracket begins an attribute
abbrev pub behind_hash : Bool → LexemeKind → Reading → Reading
behind_hash inner (kind.Open Bracket) r = record r { inner = inner; phase = Start }
behind_hash inner (kind.Mark b) r = if (b == 33) && not inner then to Bang r else outside (kind.Mark b) r
behind_hash inner k r = outside k r

-- where an attribute may begin
abbrev pub started : ℕ → LexemeKind → Reading → Reading
started at (kind.Word name) r = to (Named name (at + 1)) r
started at (kind.Open d) r = opened Group (Input word.Other (at + 1)) r
started at (kind.Close d) r = closed r
started at (kind.Mark b) r = if b == 44 then r else to (Input word.Other (at + 1)) r
started at _ r = to (Input word.Other (at + 1)) r

-- a parenthesis behind the first word: that of `cfg_attr` has a predicate first, and that of `unsafe` an attribute
abbrev pub opened_behind : Word → ℕ → ℕ → Reading → Reading
opened_behind word.CfgAttr first at r = opened (Wrapped r.condition) (Predicate (at + 1)) r
opened_behind word.Unsafe first at r = opened (Wrapped r.condition) Start r
opened_behind name first at r = opened Group (Input name first) r

-- a comma ends an attribute, unless it stands in its own brackets
abbrev pub ended_input : ℕ → Reading → Reading
ended_input at r = if is_in_group r then r else to Start (finished at r)

abbrev pub closed_input : ℕ → Reading → Reading
closed_input at r = closed (if is_in_group r then r else finished at r)

-- in an attribute
abbrev pub in_input : ℕ → LexemeKind → Reading → Reading
in_input at (kind.Open d) r = opened Group r.phase r
in_input at (kind.Close d) r = closed_input at r
in_input at (kind.Mark b) r = if b == 44 then ended_input at r else r
in_input at _ r = r

-- behind the first word of an attribute: a path of more words has no name that is known
abbrev pub behind_name : Word → ℕ → ℕ → LexemeKind → Reading → Reading
behind_name name first at (kind.Open Parenthesis) r = opened_behind name first at r
behind_name name first at (kind.Mark b) r =
    if b == 58 then to (Input word.Other first) r else in_input at (kind.Mark b) (to (Input name first) r)
behind_name name first at k r = in_input at k (to (Input name first) r)

-- in a predicate: a comma ends it, unless it stands in its own brackets
abbrev pub in_predicate : ℕ → ℕ → LexemeKind → Reading → Reading
in_predicate p at (kind.Open d) r = opened Group (Predicate p) r
in_predicate p at (kind.Close d) r = closed r
in_predicate p at (kind.Mark b) r = if (b == 44) && not (is_in_group r) then conditioned p at r else r
in_predicate p at _ r = r

-- behind a `cfg_attr` or `unsafe`
abbrev pub behind : LexemeKind → Reading → Reading
behind (kind.Open d) r = opened Group Behind r
behind (kind.Close d) r = closed r
behind (kind.Mark b) r = if (b == 44) && not (is_in_group r) then to Start r else r
behind _ r = r

-- the lexeme of a number
abbrev pub step_from : AttributePhase → ℕ → LexemeKind → Reading → Reading
step_from Outside at k r = outside k r
step_from Hash at k r = behind_hash false k r
step_from Bang at k r = behind_hash true k r
step_from Start at k r = started at k r
step_from (Named name s) at k r = behind_name name s at k r
step_from (Input name s) at k r = in_input at k r
step_from (Predicate p) at k r = in_predicate p at k r
step_from Behind at k r = behind k r

abbrev pub step : ℕ → LexemeKind → Reading → Reading
step at k r = step_from r.phase at k r

-- what is found in lexemes, of which so many stand before these
abbrev pub run : ℕ → Reading → List Lexeme → Reading
run at r [] = finished at r
run at r (l ∷ ls) = run (at + 1) (step at l.kind r) ls

abbrev pub reading : List Lexeme → Reading
reading ls = run 0 start ls

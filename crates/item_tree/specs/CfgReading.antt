-- How a predicate of `cfg` is read, lexeme by lexeme.
use Rattle.std.specs.Prelude.{◌==◌, ◌≤◌, ◌+◌, ◌-◌, ◌||◌, ◌&&◌, ℕ, Bool, true, false, List, [], ◌∷◌, ◌++◌, Option, Some, None, Result, Ok, Err, length, take, slice_get, option_map, option_and_then, if◌then◌else◌}
use Rattle.item_tree.specs.Shapes.{begins}
use Rattle.item_tree.specs.Spans.{piece}
use Rattle.item_tree.specs.declared.lexer.span.Span.{Span}
use Rattle.item_tree.specs.declared.lexer.word.Word.{Word}
use Rattle.item_tree.specs.declared.lexer.word.Word.TheVariants as word
use Rattle.item_tree.specs.declared.lexer.lexeme.Delimiter.TheVariants.{Parenthesis}
use Rattle.item_tree.specs.declared.lexer.lexeme.LexemeKind.{LexemeKind}
use Rattle.item_tree.specs.declared.lexer.lexeme.LexemeKind.TheVariants as kind
use Rattle.item_tree.specs.declared.lexer.lexeme.Lexeme.{Lexeme}
use Rattle.item_tree.specs.declared.cfg.CfgNode.{CfgNode}
use Rattle.item_tree.specs.declared.cfg.CfgNode.TheVariants as node
use Rattle.item_tree.specs.declared.cfg.cfg_parser.CfgList.{CfgList}
use Rattle.item_tree.specs.declared.cfg.cfg_parser.CfgList.TheVariants.{Whole, Not, All, Any}
use Rattle.item_tree.specs.declared.cfg.cfg_parser.CfgLevel.{CfgLevel}
use Rattle.item_tree.specs.declared.cfg.cfg_parser.CfgParse.{CfgParse}
use Rattle.item_tree.specs.declared.cfg.cfg_parser.CfgParse.TheVariants.{Predicate, Malformed}
use Rattle.item_tree.specs.declared.cfg.cfg_parser.CfgPhase.{CfgPhase}
use Rattle.item_tree.specs.declared.cfg.cfg_parser.CfgPhase.TheVariants.{Begin, Named, Valued, Done}

-- a predicate that is read in part: its nodes, the lists around the innermost one, that one, and what may come next
pub record Reading : Type 0 where
  pub nodes : List CfgNode
  pub outer : List CfgLevel
  pub level : CfgLevel
  pub phase : CfgPhase

abbrev pub span_of : Lexeme → Span
span_of l = record { start = l.start; len = l.len }

-- the list that a word before a parenthesis opens
abbrev pub list_of : Word → Option CfgList
list_of word.Not = Some Not
list_of word.All = Some All
list_of word.Any = Some Any
list_of _ = None

-- what a word alone is
abbrev pub leaf : Word → Span → CfgNode
leaf word.True s = node.True
leaf word.False s = node.False
leaf _ s = node.Flag s

-- the node between two predicates of a list, where it may have two
abbrev pub between : CfgList → ℕ → Option CfgNode
between Whole d = None
between Not d = None
between All d = Some (node.All d)
between Any d = Some (node.Any d)

-- what a list is that has no predicate, where it may have none
abbrev pub of_none : CfgList → Option CfgNode
of_none Whole = None
of_none Not = None
of_none All = Some node.True
of_none Any = Some node.False

-- a name that neither a list nor a value follows is a predicate
abbrev pub flushed_from : CfgPhase → Reading → Reading
flushed_from Begin r = r
flushed_from (Named w s) r = record r { nodes = r.nodes ++ leaf w s ∷ []; phase = Done }
flushed_from (Valued s) r = r
flushed_from Done r = r

abbrev pub flushed : Reading → Reading
flushed r = flushed_from r.phase r

-- so many lists are open around what the innermost list has
abbrev pub depth : Reading → ℕ
depth r = length r.outer + 1

-- a predicate begins: the first of its list, or one behind others
abbrev pub begun : Reading → Option Reading
begun r =
    if r.level.begun then option_map (λ n. record r { nodes = r.nodes ++ n ∷ [] }) (between r.level.list (depth r))
    else Some (record r { level = record { list = r.level.list; begun = true } })

abbrev pub named : Word → Span → Reading → Option Reading
named w s r = option_map (λ (b : Reading). record b { phase = Named w s }) (begun r)

-- a list opens
abbrev pub opened : Word → Reading → Option Reading
opened w r = option_map (λ list. record r { outer = r.outer ++ r.level ∷ []; level = record { list = list; begun = false }; phase = Begin }) (list_of w)

-- the nodes at the end of a list, where it may end
abbrev pub ending_begun : CfgList → ℕ → Option (List CfgNode)
ending_begun Whole d = None
ending_begun Not d = Some (node.Not d ∷ [])
ending_begun All d = Some []
ending_begun Any d = Some []

abbrev pub ending : CfgLevel → ℕ → Option (List CfgNode)
ending l d = if l.begun then ending_begun l.list d else option_map (λ n. n ∷ []) (of_none l.list)

abbrev pub with_nodes : List CfgNode → Reading → Reading
with_nodes ns r = record r { nodes = ns }

-- the list around the innermost one goes on
abbrev pub popped : Reading → Option Reading
popped r = option_map (λ l. record r { outer = take (length r.outer - 1) r.outer; level = l; phase = Done }) (slice_get r.outer (length r.outer - 1))

abbrev pub closed : Reading → Option Reading
closed r = option_and_then (λ ns. popped (with_nodes (r.nodes ++ ns) r)) (ending r.level (depth r))

-- a predicate has its value
abbrev pub valued : Span → Span → Reading → Reading
valued key value r = record r { nodes = r.nodes ++ node.KeyValue key value ∷ []; phase = Done }

-- a string of text, not of bytes or of C
abbrev pub is_text : List ℕ → Lexeme → Bool
is_text text l = begins (λ b. (b == 34) || (b == 114)) (piece text (span_of l))

-- what may come behind a predicate
abbrev pub behind : LexemeKind → Reading → Option Reading
behind (kind.Mark b) r = if b == 44 then Some (record r { phase = Begin }) else None
behind (kind.Close Parenthesis) r = closed r
behind _ r = None

-- what may come at its beginning; behind a comma a list may end
abbrev pub at_begin : Lexeme → LexemeKind → Reading → Option Reading
at_begin l (kind.Word w) r = named w (span_of l) r
at_begin l (kind.Close Parenthesis) r = closed r
at_begin l _ r = None

-- names that may have a value
abbrev pub may_have_value : Word → Bool
may_have_value word.True = false
may_have_value word.False = false
may_have_value _ = true

-- what may come behind a name
abbrev pub behind_name : Word → Span → LexemeKind → Reading → Option Reading
behind_name w s (kind.Open Parenthesis) r = opened w r
behind_name w s (kind.Mark b) r =
    if (b == 61) && may_have_value w then Some (record r { phase = Valued s }) else behind (kind.Mark b) (flushed r)
behind_name w s k r = behind k (flushed r)

abbrev pub value_of : List ℕ → Span → Lexeme → LexemeKind → Reading → Option Reading
value_of text key l kind.Str r = if is_text text l then Some (valued key (span_of l) r) else None
value_of text key l _ r = None

-- one more lexeme
abbrev pub step_from : List ℕ → CfgPhase → Lexeme → Reading → Option Reading
step_from text Begin l r = at_begin l l.kind r
step_from text (Named w s) l r = behind_name w s l.kind r
step_from text (Valued key) l r = value_of text key l l.kind r
step_from text Done l r = behind l.kind r

abbrev pub step : List ℕ → Lexeme → Reading → Option Reading
step text l r = step_from text r.phase l r

-- the whole predicate may end
abbrev pub is_ended : CfgPhase → Bool → Bool
is_ended Done begun = true
is_ended Begin begun = begun
is_ended (Named w s) begun = false
is_ended (Valued s) begun = false

abbrev pub is_whole : Reading → Bool
is_whole r = (length r.outer == 0) && is_ended r.phase r.level.begun

abbrev pub end_of : ℕ → Reading → Result (List CfgNode) ℕ
end_of i r = if is_whole r then Ok r.nodes else Err i

-- where a step may not be, the number of its lexeme is the answer
abbrev pub after : ℕ → Option Reading → (Reading → Result (List CfgNode) ℕ) → Result (List CfgNode) ℕ
after i None rest = Err i
after i (Some r) rest = rest r

-- the nodes of the predicate, or the number of the lexeme where it goes wrong
abbrev pub run : List ℕ → ℕ → Reading → List Lexeme → Result (List CfgNode) ℕ
run text i r [] = end_of i (flushed r)
run text i r (l ∷ ls) = after i (step text l r) (λ s. run text (i + 1) s ls)

-- before the first lexeme
abbrev pub start : Reading
start = record { nodes = []; outer = []; level = record { list = Whole; begun = false }; phase = Begin }

abbrev pub reading : List ℕ → List Lexeme → Result (List CfgNode) ℕ
reading text ls = run text 0 start ls

-- what a step answers: the new state, or none
abbrev pub answer : Bool → Reading → Option Reading
answer true r = Some r
answer false r = None

abbrev pub parsed : CfgParse → Result (List CfgNode) ℕ
parsed (Predicate nodes) = Ok nodes.items
parsed (Malformed at) = Err at

-- the place of an error is one of so many lexemes, or behind them
abbrev pub IsWithin : ℕ → CfgParse → Type 0
IsWithin count (Predicate nodes) = Unit {0}
IsWithin count (Malformed at) = at ≤ count

-- The innermost open delimiter of each kind.
use Rattle.std.specs.Prelude.{ℕ, List, Option, Some, None, slice_get}
use Rattle.item_tree.specs.declared.lexer.lexeme.Delimiter.{Delimiter}
use Rattle.item_tree.specs.declared.lexer.lexeme.Delimiter.TheVariants.{Parenthesis, Bracket, Brace}
use Rattle.item_tree.specs.declared.lexer.lexeme.LexemeKind.{LexemeKind}
use Rattle.item_tree.specs.declared.lexer.lexeme.LexemeKind.TheVariants.{Open, Close}
use Rattle.item_tree.specs.declared.lexer.delimiters.Innermost.{Innermost}

abbrev pub of_kind : Delimiter → Innermost → Option ℕ
of_kind Parenthesis pending = pending.parenthesis
of_kind Bracket pending = pending.bracket
of_kind Brace pending = pending.brace

abbrev pub opened : ℕ → Delimiter → Innermost → Innermost
opened i Parenthesis pending = record { parenthesis = Some i; bracket = pending.bracket; brace = pending.brace }
opened i Bracket pending = record { parenthesis = pending.parenthesis; bracket = Some i; brace = pending.brace }
opened i Brace pending = record { parenthesis = pending.parenthesis; bracket = pending.bracket; brace = Some i }

abbrev pub closes : LexemeKind → Innermost → Option ℕ
closes (Close d) pending = of_kind d pending
closes _ pending = None

-- what was open at a place, where one is told
abbrev pub at_or : Option Innermost → Innermost → Innermost
at_or None pending = pending
at_or (Some before) pending = before

abbrev pub at_place : Option ℕ → List Innermost → Innermost → Innermost
at_place None before pending = pending
at_place (Some i) before pending = at_or (slice_get before i) pending

abbrev pub open_behind : ℕ → LexemeKind → Innermost → List Innermost → Innermost
open_behind i (Open d) pending before = opened i d pending
open_behind i (Close d) pending before = at_place (of_kind d pending) before pending
open_behind i _ pending before = pending

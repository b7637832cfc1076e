-- Delimiters that belong together.
use Rattle.std.specs.Prelude.{◌+◌, ◌++◌, ℕ, Bool, true, false, List, [], ◌∷◌, Option, Some, None, slice_set, is_none, if◌then◌else◌}
use Rattle.item_tree.specs.declared.lexer.lexeme.Delimiter.{Delimiter}
use Rattle.item_tree.specs.declared.lexer.lexeme.Delimiter.TheVariants.{Parenthesis, Bracket, Brace}
use Rattle.item_tree.specs.declared.lexer.lexeme.LexemeKind.{LexemeKind}
use Rattle.item_tree.specs.declared.lexer.lexeme.LexemeKind.TheVariants.{Open, Close}
use Rattle.item_tree.specs.declared.lexer.lexeme.Lexeme.{Lexeme}

abbrev pub same : Delimiter → Delimiter → Bool
same Parenthesis Parenthesis = true
same Bracket Bracket = true
same Brace Brace = true
same _ _ = false

-- a delimiter that is open
pub record Opened : Type 0 where
  pub place : ℕ
  pub delimiter : Delimiter

-- the place of the innermost open one of a kind, where the innermost of all stands first
abbrev pub innermost : Delimiter → List Opened → Option ℕ
innermost d [] = None
innermost d (o ∷ pending) = if same d o.delimiter then Some o.place else innermost d pending

-- those that are open outside of it
abbrev pub outside : Delimiter → List Opened → List Opened
outside d [] = []
outside d (o ∷ pending) = if same d o.delimiter then pending else outside d pending

-- the place of the one that a lexeme closes: a closing delimiter closes the innermost open one of its kind
abbrev pub closes : LexemeKind → List Opened → Option ℕ
closes (Close d) pending = innermost d pending
closes _ pending = None

-- what is open behind the lexeme at a place; what is open inside of a delimiter that is closed is given up
abbrev pub open_behind : ℕ → LexemeKind → List Opened → List Opened
open_behind i (Open d) pending = record { place = i; delimiter = d } ∷ pending
open_behind i (Close d) pending = if is_none (innermost d pending) then pending else outside d pending
open_behind i _ pending = pending

-- the partners of some lexemes and of the next one, at a place: it is its own, or that of the one that it closes
abbrev pub with_partner : ℕ → Option ℕ → List ℕ → List ℕ
with_partner i None partners = partners ++ i ∷ []
with_partner i (Some opening) partners = slice_set (partners ++ opening ∷ []) opening i

-- the partners of some lexemes and of those from a place on
abbrev pub partners_from : ℕ → List Opened → List ℕ → List Lexeme → List ℕ
partners_from i pending partners [] = partners
partners_from i pending partners (l ∷ ls) = partners_from (i + 1) (open_behind i l.kind pending) (with_partner i (closes l.kind pending) partners) ls

-- for each lexeme the place of its partner, or its own
abbrev pub partners_of : List Lexeme → List ℕ
partners_of ls = partners_from 0 [] [] ls

-- How patterns are read: The Rust Reference, "Patterns".
use Rattle.std.specs.Prelude.{◌+◌, ◌&&◌, ◌||◌, ℕ, Bool, true, false, List, if◌then◌else◌}
use Rattle.item_tree.specs.declared.lexer.lexeme.Delimiter.TheVariants.{Parenthesis, Bracket}
use Rattle.item_tree.specs.declared.lexer.word.Word.{Word}
use Rattle.item_tree.specs.declared.lexer.word.Word.TheVariants as word
use Rattle.macro_rules.specs.Expressions.{is_borrow, is_range}
use Rattle.macro_rules.specs.Extents.{kind_at, tree_len, angles_len, is_literal, is_mark, is_segment, opens, opens_angles, opens_brace, opens_parenthesis}
use Rattle.macro_rules.specs.Goals.{takes_both, takes_then, takes, impossible}
use Rattle.macro_rules.specs.Types.{tree_at, is_colons, is_mut}
use Rattle.macro_rules.specs.declared.goal.Goal.TheVariants as goal
use Rattle.macro_rules.specs.declared.goal.Move.{Move}
use Rattle.macro_rules.specs.declared.goal.Style.TheVariants.{Values}
use Rattle.macro_rules.specs.declared.token.FragmentKind.{FragmentKind}
use Rattle.macro_rules.specs.declared.token.FragmentKind.TheVariants as of
use Rattle.macro_rules.specs.declared.token.Keyword.{Keyword}
use Rattle.macro_rules.specs.declared.token.Keyword.TheVariants as keyword
use Rattle.macro_rules.specs.declared.token.Token.{Token}
use Rattle.macro_rules.specs.declared.token.TokenKind.{TokenKind}
use Rattle.macro_rules.specs.declared.token.TokenKind.TheVariants as kind

-- patterns with bars between, perhaps one before; or one without
abbrev pub pattern_move : Bool → List Token → Move
pattern_move bars ts =
    if bars then takes_both (if is_mark 124 (kind_at ts 0) then 1 else 0) goal.Atom goal.Bars else takes_then 0 goal.Atom

abbrev pub bars_move : List Token → Move
bars_move ts = if is_mark 124 (kind_at ts 0) then takes_both 1 goal.Atom goal.Bars else takes 0

abbrev pub pattern_path : Move
pattern_path = takes_both 0 (goal.Path Values) goal.PatternEnd

-- `mut` and `ref` before a name, `_`, a literal, `const { }`, a path
abbrev pub atom_word_move : Word → Move
atom_word_move word.Mut = takes_then 1 goal.Atom
atom_word_move word.Ref = takes_then 1 goal.Atom
atom_word_move word.Underscore = takes 1
atom_word_move word.True = takes_then 1 goal.Range
atom_word_move word.False = takes_then 1 goal.Range
atom_word_move word.Const = takes_both 1 goal.Block goal.Range
atom_word_move w = pattern_path

-- `&` with `mut`; a literal with its minus; a range without a begin, or the rest; a path
abbrev pub atom_mark_move : TokenKind → List Token → Move
atom_mark_move k ts =
    if is_borrow k then takes_then (if is_mut (kind_at ts 1) then 2 else 1) goal.Atom
    else if is_mark 45 k then takes_then (tree_at 1 ts) goal.Range
    else if is_range k then takes_then 1 goal.RangeEnd
    else if opens_angles k then takes_both (angles_len 0 0 ts) (goal.Tail Values) goal.PatternEnd
    else if is_colons k then pattern_path
    else impossible

-- a fragment of a pattern, of a literal or an expression that is one, of a path or a type that is one
abbrev pub atom_fragment_move : FragmentKind → List Token → Move
atom_fragment_move of.Pat ts = takes (tree_len 0 ts)
atom_fragment_move of.PatParam ts = takes (tree_len 0 ts)
atom_fragment_move of.Expr ts = takes_then (tree_len 0 ts) goal.Range
atom_fragment_move of.Expr2021 ts = takes_then (tree_len 0 ts) goal.Range
atom_fragment_move of.Literal ts = takes_then (tree_len 0 ts) goal.Range
atom_fragment_move of.Path ts = pattern_path
atom_fragment_move of.Ty ts = pattern_path
atom_fragment_move k ts = impossible

abbrev pub atom_by : TokenKind → List Token → Move
atom_by (kind.Word w) ts = atom_word_move w
atom_by (kind.Keyword keyword.Do) ts = takes_then 1 goal.Atom
atom_by (kind.FragmentOpen k) ts = atom_fragment_move k ts
atom_by (kind.DollarCrate home) ts = pattern_path
atom_by kind.Literal ts = takes_then 1 goal.Range
atom_by kind.Doc ts = takes_then 1 goal.Range
atom_by (kind.Open Parenthesis) ts = takes (tree_len 0 ts)
atom_by (kind.Open Bracket) ts = takes (tree_len 0 ts)
atom_by k ts = atom_mark_move k ts

-- a pattern without bars
abbrev pub atom_move : List Token → Move
atom_move ts = atom_by (kind_at ts 0) ts

-- `..`, `..=` or `...` behind the begin of a range
abbrev pub range_move : List Token → Move
range_move ts = if is_range (kind_at ts 0) then takes_then 1 goal.RangeEnd else takes 0

-- behind a path: fields, a macro call's `!` and group, `@` and a pattern, or a range
abbrev pub pattern_end_move : List Token → Move
pattern_end_move ts =
    if opens_parenthesis (kind_at ts 0) || opens_brace (kind_at ts 0) then takes (tree_len 0 ts)
    else if is_mark 33 (kind_at ts 0) && opens (kind_at ts 1) then takes (tree_at 1 ts)
    else if is_mark 64 (kind_at ts 0) then takes_then 1 goal.Atom
    else range_move ts

abbrev pub range_fragment_move : FragmentKind → List Token → Move
range_fragment_move of.Expr ts = takes (tree_len 0 ts)
range_fragment_move of.Expr2021 ts = takes (tree_len 0 ts)
range_fragment_move of.Literal ts = takes (tree_len 0 ts)
range_fragment_move of.Path ts = takes (tree_len 0 ts)
range_fragment_move k ts = takes 0

abbrev pub range_mark_move : TokenKind → List Token → Move
range_mark_move k ts =
    if is_literal k then takes 1
    else if is_mark 45 k then takes (tree_at 1 ts)
    else if is_segment k || is_colons k then takes_then 0 (goal.Path Values)
    else if opens_angles k then takes_then (angles_len 0 0 ts) (goal.Tail Values)
    else takes 0

-- the end of a range, if it has one: a literal with its minus, a path, or a fragment of one
abbrev pub range_end_by : TokenKind → List Token → Move
range_end_by (kind.FragmentOpen k) ts = range_fragment_move k ts
range_end_by k ts = range_mark_move k ts

abbrev pub range_end_move : List Token → Move
range_end_move ts = range_end_by (kind_at ts 0) ts

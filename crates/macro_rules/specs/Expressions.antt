-- How expressions are read: The Rust Reference, "Expressions". Only the end counts, so there is no precedence: an operand is to
-- come, or an operator may.
use Rattle.std.specs.Prelude.{◌==◌, ◌+◌, ◌&&◌, ◌||◌, ℕ, Bool, true, false, not, List, Option, Some, None, if◌then◌else◌}
use Rattle.item_tree.specs.declared.lexer.lexeme.Delimiter.TheVariants.{Parenthesis, Bracket, Brace}
use Rattle.item_tree.specs.declared.lexer.word.Word.{Word}
use Rattle.item_tree.specs.declared.lexer.word.Word.TheVariants as word
use Rattle.macro_rules.specs.Beginnings.{begins_expression}
use Rattle.macro_rules.specs.Extents.{kind_at, tree_len, angles_len, block_len, width, is_lifetime, is_mark, is_pair, opens, opens_angles, opens_brace}
use Rattle.macro_rules.specs.Goals.{takes_all, takes_both, takes_then, takes, impossible}
use Rattle.macro_rules.specs.Types.{angles_at, tree_at, is_colons, is_mut}
use Rattle.macro_rules.specs.declared.goal.Goal.{Goal}
use Rattle.macro_rules.specs.declared.goal.Goal.TheVariants as goal
use Rattle.macro_rules.specs.declared.goal.Mode.{Mode}
use Rattle.macro_rules.specs.declared.goal.Mode.TheVariants.{First, Later, Plain, Head, Statement, Range}
use Rattle.macro_rules.specs.declared.goal.Move.{Move}
use Rattle.macro_rules.specs.declared.goal.Style.TheVariants.{Values}
use Rattle.macro_rules.specs.declared.token.FragmentKind.{FragmentKind}
use Rattle.macro_rules.specs.declared.token.FragmentKind.TheVariants as of
use Rattle.macro_rules.specs.declared.token.Keyword.{Keyword}
use Rattle.macro_rules.specs.declared.token.Keyword.TheVariants as keyword
use Rattle.macro_rules.specs.declared.token.Token.{Token}
use Rattle.macro_rules.specs.declared.token.TokenKind.{TokenKind}
use Rattle.macro_rules.specs.declared.token.TokenKind.TheVariants as kind

-- within an expression: what begins a statement is an expression as others are
abbrev pub within : Mode → Mode
within First = Later
within Statement = Later
within mode = mode

-- a whole expression in another, which goes on behind it
abbrev pub whole : Mode → Mode
whole Head = Head
whole _ = Plain

-- behind a range without a begin: with one that begins an expression that ends
abbrev pub prefixed : Mode → Mode
prefixed Head = Head
prefixed First = Range
prefixed Statement = Range
prefixed _ = Plain

-- behind another range, with which the first part of an expression ends
abbrev pub ranged : Mode → Mode
ranged Head = Head
ranged Plain = Plain
ranged _ = Range

-- `const` or `mut`
abbrev pub is_mutability : TokenKind → Bool
is_mutability (kind.Word word.Const) = true
is_mutability (kind.Word word.Mut) = true
is_mutability _ = false

abbrev pub is_other : TokenKind → Bool
is_other (kind.Word word.Other) = true
is_other _ = false

-- `&` with `mut`, `raw const` or `raw mut`
abbrev pub borrow_len : List Token → ℕ
borrow_len ts =
    if is_mut (kind_at ts 1) then 2
    else if is_other (kind_at ts 1) && is_mutability (kind_at ts 2) then 3
    else 1

-- `..`, `..=`, and `...`, which rustc reads as a range
abbrev pub is_range : TokenKind → Bool
is_range (kind.Pair first second) = (first == 46) && (second == 46)
is_range (kind.Triple first second third) = first == 46
is_range _ = false

-- an expression that is a path, a macro call or a struct
abbrev pub expression_path : Mode → Move
expression_path mode = takes_both 0 (goal.Path Values) (goal.PathEnd mode)

-- `! - *`
abbrev pub is_prefix : TokenKind → Bool
is_prefix k = is_mark 33 k || is_mark 45 k || is_mark 42 k

abbrev pub is_borrow : TokenKind → Bool
is_borrow k = is_mark 38 k || is_pair 38 38 k

-- a prefix and an operand; an attribute; a closure; a range without a begin; a path
abbrev pub operand_mark_move : TokenKind → Mode → List Token → Move
operand_mark_move k mode ts =
    if is_prefix k then takes_then 1 (goal.Operand (within mode))
    else if is_borrow k then takes_then (borrow_len ts) (goal.Operand (within mode))
    else if is_mark 35 k then takes_then (tree_at 1 ts) (goal.Operand mode)
    else if is_mark 124 k then takes_then 1 (goal.Parameters (whole mode))
    else if is_pair 124 124 k then takes_then 1 (goal.Body (whole mode))
    else if is_range k then takes_then 1 (goal.Optional (prefixed mode))
    else if opens_angles k then takes_both (angles_len 0 0 ts) (goal.Tail Values) (goal.PathEnd mode)
    else if is_colons k then expression_path mode
    else impossible

-- a label may follow `break` and `continue`
abbrev pub label_len : List Token → ℕ
label_len ts = if is_lifetime (kind_at ts 1) then 2 else 1

abbrev pub binds_lifetimes : List Token → Bool
binds_lifetimes ts = is_mark 60 (kind_at ts 1) && (is_lifetime (kind_at ts 2) || is_mark 62 (kind_at ts 2))

-- `for<'a, ..>` before a closure, or a loop
abbrev pub for_move : Mode → List Token → Move
for_move mode ts =
    if binds_lifetimes ts then takes_then (angles_at 1 ts) (goal.Operand (within mode))
    else takes_both 1 (goal.Pattern true) (goal.Each mode)

abbrev pub operand_word_move : Word → Mode → List Token → Move
operand_word_move word.True mode ts = takes_then 1 (goal.Operator mode)
operand_word_move word.False mode ts = takes_then 1 (goal.Operator mode)
operand_word_move word.Underscore mode ts = takes_then 1 (goal.Operator mode)
operand_word_move word.If mode ts = takes_all 1 (goal.Operand Head) goal.Block (goal.Else mode)
operand_word_move word.While mode ts = takes_both 1 (goal.Operand Head) (goal.Ended mode)
operand_word_move word.Match mode ts = takes_both 1 (goal.Operand Head) (goal.Ended mode)
operand_word_move word.For mode ts = for_move mode ts
operand_word_move word.Unsafe mode ts = takes_then 1 (goal.Ended mode)
operand_word_move word.Const mode ts = takes_then 1 (goal.Ended mode)
operand_word_move word.Static mode ts = takes_then 1 (goal.Operand (within mode))
operand_word_move word.Move mode ts = takes_then 1 (goal.Operand (within mode))
operand_word_move word.Async mode ts = takes_then 1 (goal.Operand (within mode))
operand_word_move word.Gen mode ts = takes_then 1 (goal.Operand (within mode))
operand_word_move word.Let mode ts = takes_both 1 (goal.Pattern true) (goal.Value mode)
operand_word_move word.Return mode ts = takes_then 1 (goal.Optional (whole mode))
operand_word_move word.Break mode ts = takes_then (label_len ts) (goal.Optional (whole mode))
operand_word_move w mode ts = expression_path mode

abbrev pub operand_keyword_move : Keyword → Mode → List Token → Move
operand_keyword_move keyword.Loop mode ts = takes_then 1 (goal.Ended mode)
operand_keyword_move keyword.Try mode ts = takes_then 1 (goal.Ended mode)
operand_keyword_move keyword.Continue mode ts = takes_then (label_len ts) (goal.Operator mode)
operand_keyword_move keyword.Yield mode ts = takes_then 1 (goal.Optional (whole mode))
operand_keyword_move k mode ts = impossible

-- a fragment of a path is whole, but at the begin of a statement
abbrev pub path_fragment_end : Mode → Goal
path_fragment_end Statement = goal.PathEnd Statement
path_fragment_end mode = goal.Operator mode

abbrev pub operand_fragment_move : FragmentKind → Mode → List Token → Move
operand_fragment_move of.Expr mode ts = takes_then (tree_len 0 ts) (goal.Operator mode)
operand_fragment_move of.Expr2021 mode ts = takes_then (tree_len 0 ts) (goal.Operator mode)
operand_fragment_move of.Literal mode ts = takes_then (tree_len 0 ts) (goal.Operator mode)
operand_fragment_move of.Path mode ts = takes_then (tree_len 0 ts) (path_fragment_end mode)
operand_fragment_move of.Block mode ts = takes_then (tree_len 0 ts) (goal.Behind mode)
operand_fragment_move k mode ts = impossible

-- an operand is a group, a literal, a label and what it is of, or begins with a word or a mark
abbrev pub operand_by : TokenKind → Mode → List Token → Move
operand_by (kind.Word w) mode ts = operand_word_move w mode ts
operand_by (kind.Keyword k) mode ts = operand_keyword_move k mode ts
operand_by (kind.FragmentOpen k) mode ts = operand_fragment_move k mode ts
operand_by (kind.DollarCrate home) mode ts = expression_path mode
operand_by kind.Literal mode ts = takes_then 1 (goal.Operator mode)
operand_by kind.Doc mode ts = takes_then 1 (goal.Operator mode)
operand_by kind.Lifetime mode ts = takes_then 2 (goal.Operand mode)
operand_by (kind.Open Brace) mode ts = takes_then (tree_len 0 ts) (goal.Behind mode)
operand_by (kind.Open d) mode ts = takes_then (tree_len 0 ts) (goal.Operator mode)
operand_by k mode ts = operand_mark_move k mode ts

abbrev pub operand_move : Mode → List Token → Move
operand_move mode ts = operand_by (kind_at ts 0) mode ts

-- `+ - * / % ^ & | = < >`
abbrev pub is_binary_mark : ℕ → Bool
is_binary_mark b =
    (b == 43) || (b == 45) || (b == 42) || (b == 47) || (b == 37) || (b == 94) || (b == 38) || (b == 124) || (b == 61) || (b == 60) || (b == 62)

-- `&& || << >>`
abbrev pub is_doubled : ℕ → Bool
is_doubled b = (b == 38) || (b == 124) || (b == 60) || (b == 62)

-- one of these, or one that ends with `=`: a comparison or an assignment
abbrev pub is_binary : TokenKind → Bool
is_binary (kind.Mark b) = is_binary_mark b
is_binary (kind.Pair first second) = (second == 61) || ((first == second) && is_doubled first)
is_binary (kind.Triple first second third) = (third == 61) && not (first == 46)
is_binary _ = false

-- `=`, and one that ends with it and compares nothing
abbrev pub is_assignment : TokenKind → Bool
is_assignment (kind.Mark b) = b == 61
is_assignment (kind.Pair first second) = (second == 61) && not ((first == 61) || (first == 33) || (first == 60) || (first == 62))
is_assignment (kind.Triple first second third) = third == 61
is_assignment _ = false

abbrev pub is_ended_range : Mode → TokenKind → Bool
is_ended_range Range k = is_range k || is_assignment k
is_ended_range mode k = false

-- `.` and what it names, `?`, the generic arguments of a method, a range, or a binary operator and an operand
abbrev pub operator_mark_move : TokenKind → Mode → List Token → Move
operator_mark_move k mode ts =
    if is_mark 46 k then takes_then (tree_at 1 ts) (goal.Operator (within mode))
    else if is_mark 63 k then takes_then 1 (goal.Operator (within mode))
    else if is_colons k && opens_angles (kind_at ts 1) then takes_then (angles_at 1 ts) (goal.Operator (within mode))
    else if is_ended_range mode k then takes 0
    else if is_range k then takes_then 1 (goal.Optional (ranged mode))
    else if is_assignment k then takes_then (width k) (goal.Operand (whole mode))
    else if is_binary k then takes_then (width k) (goal.Operand (within mode))
    else takes 0

-- behind an operand: a call, an index, `as T`, one of these, or the end
abbrev pub operator_by : TokenKind → Mode → List Token → Move
operator_by (kind.Open Parenthesis) mode ts = takes_then (tree_len 0 ts) (goal.Operator (within mode))
operator_by (kind.Open Bracket) mode ts = takes_then (tree_len 0 ts) (goal.Operator (within mode))
operator_by (kind.Word word.As) mode ts = takes_both 1 (goal.Type false) (goal.Operator (within mode))
operator_by k mode ts = operator_mark_move k mode ts

abbrev pub operator_move : Mode → List Token → Move
operator_move mode ts = operator_by (kind_at ts 0) mode ts

abbrev pub is_head : Mode → Bool
is_head Head = true
is_head _ = false

-- a range without an end is whole
abbrev pub without_operand : Mode → Move
without_operand Range = takes 0
without_operand mode = takes_then 0 (goal.Operator mode)

-- in a head braces are the block behind it
abbrev pub optional_move : Mode → List Token → Move
optional_move mode ts =
    if begins_expression (kind_at ts 0) && not (is_head mode && opens_brace (kind_at ts 0))
    then takes_then 0 (goal.Operand mode)
    else without_operand mode

-- behind a path: a macro call's `!` and group, or the fields of a struct
abbrev pub path_end_move : Mode → List Token → Move
path_end_move mode ts =
    if is_mark 33 (kind_at ts 0) && opens_brace (kind_at ts 1) then takes_then (tree_at 1 ts) (goal.Behind mode)
    else if is_mark 33 (kind_at ts 0) && opens (kind_at ts 1) then takes_then (tree_at 1 ts) (goal.Operator mode)
    else if opens_brace (kind_at ts 0) && not (is_head mode) then takes_then (tree_len 0 ts) (goal.Operator mode)
    else takes_then 0 (goal.Operator mode)

-- a block, and what may follow an expression that ends with one
abbrev pub ended_move : Mode → Move
ended_move mode = takes_both 0 goal.Block (goal.Behind mode)

-- with a block a statement ends, unless `.` or `?` follows
abbrev pub behind_by : Mode → TokenKind → Move
behind_by Statement k = if is_mark 46 k || is_mark 63 k then takes_then 0 (goal.Operator First) else takes 0
behind_by mode k = takes_then 0 (goal.Operator mode)

abbrev pub behind_move : Mode → List Token → Move
behind_move mode ts = behind_by mode (kind_at ts 0)

abbrev pub is_if : TokenKind → Bool
is_if (kind.Word word.If) = true
is_if _ = false

abbrev pub is_else : TokenKind → Bool
is_else (kind.Word word.Else) = true
is_else _ = false

-- behind the block of an `if`: `else if` with its head, `else` with its block, or neither
abbrev pub else_move : Mode → List Token → Move
else_move mode ts =
    if not (is_else (kind_at ts 0)) then takes_then 0 (goal.Behind mode)
    else if is_if (kind_at ts 1) then takes_all 2 (goal.Operand Head) goal.Block (goal.Else mode)
    else takes_then 1 (goal.Ended mode)

-- the parameters of a closure go up to a bar; `||` ends them and begins those of its body
abbrev pub parameters_move : Mode → List Token → Move
parameters_move mode ts =
    if is_mark 124 (kind_at ts 0) then takes_then 1 (goal.Body mode)
    else if is_pair 124 124 (kind_at ts 0) then takes_then 1 (goal.Parameters mode)
    else if opens_angles (kind_at ts 0) then takes_then (angles_len 0 0 ts) (goal.Parameters mode)
    else takes_then (tree_len 0 ts) (goal.Parameters mode)

-- the body of a closure: `-> T` and a block, or an expression
abbrev pub body_move : Mode → List Token → Move
body_move mode ts =
    if is_pair 45 62 (kind_at ts 0) then takes_both 1 (goal.Type true) (goal.Ended mode) else takes_then 0 (goal.Operand mode)

-- `let P = e`, behind the pattern
abbrev pub value_move : Mode → List Token → Move
value_move mode ts = if is_mark 61 (kind_at ts 0) then takes_then 1 (goal.Operand mode) else impossible

abbrev pub is_in : TokenKind → Bool
is_in (kind.Word word.In) = true
is_in _ = false

-- `for P in e { }`, behind the pattern
abbrev pub each_move : Mode → List Token → Move
each_move mode ts = if is_in (kind_at ts 0) then takes_both 1 (goal.Operand Head) (goal.Ended mode) else impossible

abbrev pub block_by : Option ℕ → Move
block_by None = impossible
block_by (Some len) = takes len

abbrev pub block_move : List Token → Move
block_move ts = block_by (block_len ts)

-- How paths, types and metas are read: The Rust Reference, "Paths", "Types", "Trait and lifetime bounds", "Attributes".
use Rattle.std.specs.Prelude.{◌+◌, ◌&&◌, ◌||◌, ℕ, Bool, true, false, List, Option, Some, None, drop, if◌then◌else◌}
use Rattle.item_tree.specs.declared.lexer.lexeme.Delimiter.TheVariants.{Parenthesis, Bracket}
use Rattle.item_tree.specs.declared.lexer.word.Word.{Word}
use Rattle.item_tree.specs.declared.lexer.word.Word.TheVariants as word
use Rattle.macro_rules.specs.Extents.{kind_at, tree_len, angles_len, is_mark, is_pair, opens, opens_angles, opens_parenthesis, is_lifetime, is_literal, is_segment}
use Rattle.macro_rules.specs.Goals.{takes_both, takes_then, takes, impossible}
use Rattle.macro_rules.specs.declared.goal.Goal.TheVariants as goal
use Rattle.macro_rules.specs.declared.goal.Mode.TheVariants.{First}
use Rattle.macro_rules.specs.declared.goal.Move.{Move}
use Rattle.macro_rules.specs.declared.goal.Style.{Style}
use Rattle.macro_rules.specs.declared.goal.Style.TheVariants.{Names, Types, Values}
use Rattle.macro_rules.specs.declared.token.FragmentKind.TheVariants as of
use Rattle.macro_rules.specs.declared.token.Token.{Token}
use Rattle.macro_rules.specs.declared.token.TokenKind.{TokenKind}
use Rattle.macro_rules.specs.declared.token.TokenKind.TheVariants as kind

-- the angle brackets that begin so many tokens on
abbrev pub angles_at : ℕ → List Token → ℕ
angles_at n ts = n + angles_len 0 0 (drop n ts)

abbrev pub tree_at : ℕ → List Token → ℕ
tree_at n ts = n + tree_len 0 (drop n ts)

-- two colons
abbrev pub is_colons : TokenKind → Bool
is_colons k = is_pair 58 58 k

abbrev pub is_path_fragment : TokenKind → Bool
is_path_fragment (kind.FragmentOpen of.Path) = true
is_path_fragment (kind.FragmentOpen of.Ty) = true
is_path_fragment _ = false

-- a path is a fragment of a path, or of a type that is one; or segments, the first perhaps behind colons
abbrev pub path_move : Style → List Token → Move
path_move style ts =
    if is_path_fragment (kind_at ts 0) then takes (tree_len 0 ts)
    else takes_then (if is_colons (kind_at ts 0) then 1 else 0) (goal.Segment style)

abbrev pub segment_move : Style → List Token → Move
segment_move style ts = if is_segment (kind_at ts 0) then takes_then 1 (goal.Arguments style) else impossible

-- behind a segment and its arguments two colons and another segment may follow
abbrev pub tail_move : Style → List Token → Move
tail_move style ts =
    if is_colons (kind_at ts 0) && is_segment (kind_at ts 1) then takes_then 1 (goal.Segment style) else takes 0

abbrev pub opens_arguments : TokenKind → Bool
opens_arguments k = opens_angles k || opens_parenthesis k

-- where the arguments of a segment begin: in types behind it, or as in values behind two colons; a path of names has none
abbrev pub arguments_place : Style → List Token → Option ℕ
arguments_place Names ts = None
arguments_place Types ts =
    if opens_arguments (kind_at ts 0) then Some 0
    else if is_colons (kind_at ts 0) && opens_arguments (kind_at ts 1) then Some 1
    else None
arguments_place Values ts = if is_colons (kind_at ts 0) && opens_arguments (kind_at ts 1) then Some 1 else None

-- they are angle brackets, or parentheses and what the function gives
abbrev pub arguments_by : Option ℕ → Style → List Token → Move
arguments_by None style ts = tail_move style ts
arguments_by (Some n) style ts =
    if opens_parenthesis (kind_at ts n) then takes_both (tree_at n ts) goal.Output (goal.Tail style)
    else takes_then (angles_at n ts) (goal.Tail style)

abbrev pub arguments_move : Style → List Token → Move
arguments_move style ts = arguments_by (arguments_place style ts) style ts

-- `-> T`, if an arrow follows
abbrev pub output_move : List Token → Move
output_move ts = if is_pair 45 62 (kind_at ts 0) then takes_then 1 (goal.Type false) else takes 0

abbrev pub is_mut : TokenKind → Bool
is_mut (kind.Word word.Mut) = true
is_mut _ = false

-- behind `&` there may be a lifetime and `mut`
abbrev pub reference_len : List Token → ℕ
reference_len ts =
    if is_lifetime (kind_at ts 1) then (if is_mut (kind_at ts 2) then 3 else 2)
    else if is_mut (kind_at ts 1) then 2
    else 1

-- a type that is a path, and more bounds or a macro's group behind
abbrev pub type_path : Bool → Move
type_path plus = takes_both 0 (goal.Path Types) (goal.TypeEnd plus)

abbrev pub type_mark_move : TokenKind → Bool → List Token → Move
type_mark_move k plus ts =
    if is_mark 33 k then takes 1
    else if is_mark 42 k then takes_then 2 (goal.Type false)
    else if is_mark 38 k || is_pair 38 38 k then takes_then (reference_len ts) (goal.Type false)
    else if is_mark 63 k then takes_then 1 (goal.Type plus)
    else if opens_angles k then takes_both (angles_len 0 0 ts) (goal.Tail Types) (goal.TypeEnd plus)
    else if is_colons k then type_path plus
    else impossible

abbrev pub type_word_move : Word → Bool → List Token → Move
type_word_move word.Underscore plus ts = takes 1
type_word_move word.For plus ts = takes_then (angles_at 1 ts) (goal.Type plus)
type_word_move word.Unsafe plus ts = takes_then 1 (goal.Type plus)
type_word_move word.Extern plus ts = takes_then (if is_literal (kind_at ts 1) then 2 else 1) (goal.Type plus)
type_word_move word.Fn plus ts = takes_then (tree_at 1 ts) goal.Output
type_word_move word.Impl plus ts = takes_then 1 goal.Bounds
type_word_move word.Dyn plus ts = takes_then 1 goal.Bounds
type_word_move w plus ts = type_path plus

-- a type is one of `( )`, `[ ]`, `!`, `_`, `*const T`, `*mut T`, `& 'a mut T`, `for<..> unsafe extern "x" fn( ) -> T`, `impl B`,
-- `dyn B`, `<T as P>::path`, a path, or a fragment; and bounds
abbrev pub type_by : TokenKind → Bool → List Token → Move
type_by (kind.Word w) plus ts = type_word_move w plus ts
type_by (kind.DollarCrate home) plus ts = type_path plus
type_by kind.Lifetime plus ts = takes_then 1 (goal.Plus plus)
type_by (kind.Open Parenthesis) plus ts = takes_then (tree_len 0 ts) (goal.Plus plus)
type_by (kind.Open Bracket) plus ts = takes (tree_len 0 ts)
type_by (kind.FragmentOpen of.Ty) plus ts = takes (tree_len 0 ts)
type_by (kind.FragmentOpen of.Path) plus ts = type_path plus
type_by k plus ts = type_mark_move k plus ts

abbrev pub type_move : Bool → List Token → Move
type_move plus ts = type_by (kind_at ts 0) plus ts

-- `+ B`, where that may follow: not in `&`, in `*` and behind `->` and `as`
abbrev pub plus_move : Bool → List Token → Move
plus_move plus ts = if plus && is_mark 43 (kind_at ts 0) then takes_then 1 goal.Bounds else takes 0

-- behind the path of a type: a macro call's `!` and group, or bounds
abbrev pub type_end_move : Bool → List Token → Move
type_end_move plus ts =
    if is_mark 33 (kind_at ts 0) && opens (kind_at ts 1) then takes (tree_at 1 ts) else plus_move plus ts

-- `? ! ~` before a bound
abbrev pub bound_mark_move : TokenKind → Move
bound_mark_move k =
    if is_mark 63 k || is_mark 33 k || is_mark 126 k then takes_then 1 goal.Bounds
    else if is_colons k then takes_both 0 (goal.Path Types) (goal.Plus true)
    else takes 0

abbrev pub bound_word_move : TokenKind → Word → List Token → Move
bound_word_move k word.For ts = takes_then (angles_at 1 ts) goal.Bounds
bound_word_move k word.Use ts = takes_then (angles_at 1 ts) (goal.Plus true)
bound_word_move k word.Const ts = takes_then 1 goal.Bounds
bound_word_move k word.Async ts = takes_then 1 goal.Bounds
bound_word_move k w ts = if is_segment k then takes_both 0 (goal.Path Types) (goal.Plus true) else takes 0

-- bounds: lifetimes, `use<..>`, parentheses and paths, with pluses between, and perhaps one behind; or nothing
abbrev pub bounds_by : TokenKind → List Token → Move
bounds_by kind.Lifetime ts = takes_then 1 (goal.Plus true)
bounds_by (kind.Open Parenthesis) ts = takes_then (tree_len 0 ts) (goal.Plus true)
bounds_by (kind.FragmentOpen of.Path) ts = takes_then (tree_len 0 ts) (goal.Plus true)
bounds_by (kind.FragmentOpen of.Ty) ts = takes_then (tree_len 0 ts) (goal.Plus true)
bounds_by (kind.DollarCrate home) ts = takes_both 0 (goal.Path Types) (goal.Plus true)
bounds_by (kind.Word w) ts = bound_word_move (kind.Word w) w ts
bounds_by k ts = bound_mark_move k

abbrev pub bounds_move : List Token → Move
bounds_move ts = bounds_by (kind_at ts 0) ts

-- what is in an attribute: a path, and a group or `=` and an expression behind it; `unsafe( )`; or a fragment
abbrev pub meta_by : TokenKind → List Token → Move
meta_by (kind.FragmentOpen of.Meta) ts = takes (tree_len 0 ts)
meta_by (kind.Word word.Unsafe) ts = takes (tree_at 1 ts)
meta_by k ts = takes_both 0 (goal.Path Names) goal.MetaValue

abbrev pub meta_move : List Token → Move
meta_move ts = meta_by (kind_at ts 0) ts

abbrev pub meta_value_move : List Token → Move
meta_value_move ts =
    if opens (kind_at ts 0) then takes (tree_len 0 ts)
    else if is_mark 61 (kind_at ts 0) then takes_then 1 (goal.Operand First)
    else takes 0

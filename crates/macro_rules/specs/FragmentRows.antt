-- How far fragments go: tokens of which a fragment takes the first so many, as rustc has it, and of `&A + B` and `fn() -> A + B`,
-- which rustc refuses, as the Reference does.
use Rattle.std.specs.Prelude.{◌≡◌, ℕ, List, [], ◌∷◌, Some}
use Rattle.item_tree.specs.declared.lexer.lexeme.Delimiter.TheVariants.{Parenthesis, Bracket, Brace}
use Rattle.item_tree.specs.declared.lexer.word.Word.TheVariants as word
use Rattle.macro_rules.specs.Fragments.{fragment_len}
use Rattle.macro_rules.specs.declared.token.FragmentKind.{FragmentKind}
use Rattle.macro_rules.specs.declared.token.FragmentKind.TheVariants as of
use Rattle.macro_rules.specs.declared.token.Token.{Token}
use Rattle.macro_rules.specs.declared.token.TokenKind.{TokenKind}
use Rattle.macro_rules.specs.declared.token.TokenKind.TheVariants as kind

abbrev pub t : TokenKind → Token
t k = record { kind = k; span = record { start = 0; len = 0 } }

-- a fragment of the kind takes so many of the tokens
abbrev pub Takes : FragmentKind → ℕ → List Token → Type 0
Takes k n ts = fragment_len k ts ≡ Some n

-- `a::B<C>::d` before `, x`
abbrev pub a_path_has_arguments : Type 0
a_path_has_arguments = Takes of.Path 8 (t (kind.Word word.Other) ∷ t (kind.Pair 58 58) ∷ t (kind.Word word.Other) ∷ t (kind.Mark 60) ∷ t (kind.Word word.Other) ∷ t (kind.Mark 62) ∷ t (kind.Pair 58 58) ∷ t (kind.Word word.Other) ∷ t (kind.Mark 44) ∷ t (kind.Word word.Other) ∷ [])

-- `::a` before `, x`
abbrev pub a_path_begins_with_colons : Type 0
a_path_begins_with_colons = Takes of.Path 2 (t (kind.Pair 58 58) ∷ t (kind.Word word.Other) ∷ t (kind.Mark 44) ∷ t (kind.Word word.Other) ∷ [])

-- `Fn(A) -> B` before `, x`
abbrev pub a_path_of_a_function : Type 0
a_path_of_a_function = Takes of.Path 6 (t (kind.Word word.Other) ∷ t (kind.Open Parenthesis) ∷ t (kind.Word word.Other) ∷ t (kind.Close Parenthesis) ∷ t (kind.Pair 45 62) ∷ t (kind.Word word.Other) ∷ t (kind.Mark 44) ∷ t (kind.Word word.Other) ∷ [])

-- `B<C>` before `> x`
abbrev pub a_path_parts_a_shift : Type 0
a_path_parts_a_shift = Takes of.Path 4 (t (kind.Word word.Other) ∷ t (kind.Mark 60) ∷ t (kind.Word word.Other) ∷ t (kind.Pair 62 62) ∷ t (kind.Mark 62) ∷ t (kind.Word word.Other) ∷ [])

-- `a` before `! , x`
abbrev pub a_path_ends_before_a_bang : Type 0
a_path_ends_before_a_bang = Takes of.Path 1 (t (kind.Word word.Other) ∷ t (kind.Mark 33) ∷ t (kind.Mark 44) ∷ t (kind.Word word.Other) ∷ [])

-- `a` before `:: {} , x`
abbrev pub a_path_ends_before_braces : Type 0
a_path_ends_before_braces = Takes of.Path 1 (t (kind.Word word.Other) ∷ t (kind.Pair 58 58) ∷ t (kind.Open Brace) ∷ t (kind.Close Brace) ∷ t (kind.Mark 44) ∷ t (kind.Word word.Other) ∷ [])

-- `$ty{ u8 }` before `, x`
abbrev pub a_type_that_is_a_path : Type 0
a_type_that_is_a_path = Takes of.Path 3 (t (kind.FragmentOpen of.Ty) ∷ t (kind.Word word.Other) ∷ t (kind.FragmentClose of.Ty) ∷ t (kind.Mark 44) ∷ t (kind.Word word.Other) ∷ [])

-- `&'a mut T` before `, x`
abbrev pub a_reference : Type 0
a_reference = Takes of.Ty 4 (t (kind.Mark 38) ∷ t kind.Lifetime ∷ t (kind.Word word.Mut) ∷ t (kind.Word word.Other) ∷ t (kind.Mark 44) ∷ t (kind.Word word.Other) ∷ [])

-- `*const *mut T` before `, x`
abbrev pub a_pointer : Type 0
a_pointer = Takes of.Ty 5 (t (kind.Mark 42) ∷ t (kind.Word word.Const) ∷ t (kind.Mark 42) ∷ t (kind.Word word.Mut) ∷ t (kind.Word word.Other) ∷ t (kind.Mark 44) ∷ t (kind.Word word.Other) ∷ [])

-- `&&T` before `, x`
abbrev pub two_references : Type 0
two_references = Takes of.Ty 2 (t (kind.Pair 38 38) ∷ t (kind.Word word.Other) ∷ t (kind.Mark 44) ∷ t (kind.Word word.Other) ∷ [])

-- `(A, B)` before `, x`
abbrev pub groups : Type 0
groups = Takes of.Ty 5 (t (kind.Open Parenthesis) ∷ t (kind.Word word.Other) ∷ t (kind.Mark 44) ∷ t (kind.Word word.Other) ∷ t (kind.Close Parenthesis) ∷ t (kind.Mark 44) ∷ t (kind.Word word.Other) ∷ [])

-- `[T; N]` before `, x`
abbrev pub a_slice : Type 0
a_slice = Takes of.Ty 5 (t (kind.Open Bracket) ∷ t (kind.Word word.Other) ∷ t (kind.Mark 59) ∷ t (kind.Word word.Other) ∷ t (kind.Close Bracket) ∷ t (kind.Mark 44) ∷ t (kind.Word word.Other) ∷ [])

-- `!` before `, x`
abbrev pub never : Type 0
never = Takes of.Ty 1 (t (kind.Mark 33) ∷ t (kind.Mark 44) ∷ t (kind.Word word.Other) ∷ [])

-- `_` before `, x`
abbrev pub a_hole : Type 0
a_hole = Takes of.Ty 1 (t (kind.Word word.Underscore) ∷ t (kind.Mark 44) ∷ t (kind.Word word.Other) ∷ [])

-- `unsafe extern "C" fn(u8) -> u8` before `, x`
abbrev pub a_function : Type 0
a_function = Takes of.Ty 9 (t (kind.Word word.Unsafe) ∷ t (kind.Word word.Extern) ∷ t kind.Literal ∷ t (kind.Word word.Fn) ∷ t (kind.Open Parenthesis) ∷ t (kind.Word word.Other) ∷ t (kind.Close Parenthesis) ∷ t (kind.Pair 45 62) ∷ t (kind.Word word.Other) ∷ t (kind.Mark 44) ∷ t (kind.Word word.Other) ∷ [])

-- `for<'a> Fn(&'a u8) + 'a` before `, x`
abbrev pub a_binder : Type 0
a_binder = Takes of.Ty 12 (t (kind.Word word.For) ∷ t (kind.Mark 60) ∷ t kind.Lifetime ∷ t (kind.Mark 62) ∷ t (kind.Word word.Other) ∷ t (kind.Open Parenthesis) ∷ t (kind.Mark 38) ∷ t kind.Lifetime ∷ t (kind.Word word.Other) ∷ t (kind.Close Parenthesis) ∷ t (kind.Mark 43) ∷ t kind.Lifetime ∷ t (kind.Mark 44) ∷ t (kind.Word word.Other) ∷ [])

-- `impl A + B +` before `, x`
abbrev pub bounds : Type 0
bounds = Takes of.Ty 5 (t (kind.Word word.Impl) ∷ t (kind.Word word.Other) ∷ t (kind.Mark 43) ∷ t (kind.Word word.Other) ∷ t (kind.Mark 43) ∷ t (kind.Mark 44) ∷ t (kind.Word word.Other) ∷ [])

-- `dyn for<'a> A<'a> + ?Sized` before `, x`
abbrev pub a_trait_object : Type 0
a_trait_object = Takes of.Ty 12 (t (kind.Word word.Dyn) ∷ t (kind.Word word.For) ∷ t (kind.Mark 60) ∷ t kind.Lifetime ∷ t (kind.Mark 62) ∷ t (kind.Word word.Other) ∷ t (kind.Mark 60) ∷ t kind.Lifetime ∷ t (kind.Mark 62) ∷ t (kind.Mark 43) ∷ t (kind.Mark 63) ∷ t (kind.Word word.Other) ∷ t (kind.Mark 44) ∷ t (kind.Word word.Other) ∷ [])

-- `<<A as B>::C as D>::E` before `, x`
abbrev pub a_qualified_path : Type 0
a_qualified_path = Takes of.Ty 12 (t (kind.Pair 60 60) ∷ t (kind.Word word.Other) ∷ t (kind.Word word.As) ∷ t (kind.Word word.Other) ∷ t (kind.Mark 62) ∷ t (kind.Pair 58 58) ∷ t (kind.Word word.Other) ∷ t (kind.Word word.As) ∷ t (kind.Word word.Other) ∷ t (kind.Mark 62) ∷ t (kind.Pair 58 58) ∷ t (kind.Word word.Other) ∷ t (kind.Mark 44) ∷ t (kind.Word word.Other) ∷ [])

-- `A<{ 1 > 2 }, -1>` before `, x`
abbrev pub a_comparison_in_braces : Type 0
a_comparison_in_braces = Takes of.Ty 11 (t (kind.Word word.Other) ∷ t (kind.Mark 60) ∷ t (kind.Open Brace) ∷ t kind.Literal ∷ t (kind.Mark 62) ∷ t kind.Literal ∷ t (kind.Close Brace) ∷ t (kind.Mark 44) ∷ t (kind.Mark 45) ∷ t kind.Literal ∷ t (kind.Mark 62) ∷ t (kind.Mark 44) ∷ t (kind.Word word.Other) ∷ [])

-- `a::m!{}` before `, x`
abbrev pub a_macro : Type 0
a_macro = Takes of.Ty 6 (t (kind.Word word.Other) ∷ t (kind.Pair 58 58) ∷ t (kind.Word word.Other) ∷ t (kind.Mark 33) ∷ t (kind.Open Brace) ∷ t (kind.Close Brace) ∷ t (kind.Mark 44) ∷ t (kind.Word word.Other) ∷ [])

-- `V<u8>` before `> , x`
abbrev pub a_type_parts_a_shift : Type 0
a_type_parts_a_shift = Takes of.Ty 4 (t (kind.Word word.Other) ∷ t (kind.Mark 60) ∷ t (kind.Word word.Other) ∷ t (kind.Pair 62 62) ∷ t (kind.Mark 62) ∷ t (kind.Mark 44) ∷ t (kind.Word word.Other) ∷ [])

-- `V<V<u8>>` before `> , x`
abbrev pub a_type_parts_two_shifts : Type 0
a_type_parts_two_shifts = Takes of.Ty 7 (t (kind.Word word.Other) ∷ t (kind.Mark 60) ∷ t (kind.Word word.Other) ∷ t (kind.Mark 60) ∷ t (kind.Word word.Other) ∷ t (kind.Pair 62 62) ∷ t (kind.Mark 62) ∷ t (kind.Mark 62) ∷ t (kind.Mark 44) ∷ t (kind.Word word.Other) ∷ [])

-- `V<u8>` before `= x`
abbrev pub a_type_parts_a_comparison : Type 0
a_type_parts_a_comparison = Takes of.Ty 4 (t (kind.Word word.Other) ∷ t (kind.Mark 60) ∷ t (kind.Word word.Other) ∷ t (kind.Pair 62 61) ∷ t (kind.Mark 61) ∷ t (kind.Word word.Other) ∷ [])

-- `V<V<u8>>` before `= x`
abbrev pub a_type_parts_an_assignment : Type 0
a_type_parts_an_assignment = Takes of.Ty 7 (t (kind.Word word.Other) ∷ t (kind.Mark 60) ∷ t (kind.Word word.Other) ∷ t (kind.Mark 60) ∷ t (kind.Word word.Other) ∷ t (kind.Triple 62 62 61) ∷ t (kind.Pair 62 61) ∷ t (kind.Mark 61) ∷ t (kind.Word word.Other) ∷ [])

-- `&A` before `+ B , x`
abbrev pub no_bounds_in_a_reference : Type 0
no_bounds_in_a_reference = Takes of.Ty 2 (t (kind.Mark 38) ∷ t (kind.Word word.Other) ∷ t (kind.Mark 43) ∷ t (kind.Word word.Other) ∷ t (kind.Mark 44) ∷ t (kind.Word word.Other) ∷ [])

-- `fn() -> A` before `+ B , x`
abbrev pub no_bounds_behind_an_arrow : Type 0
no_bounds_behind_an_arrow = Takes of.Ty 5 (t (kind.Word word.Fn) ∷ t (kind.Open Parenthesis) ∷ t (kind.Close Parenthesis) ∷ t (kind.Pair 45 62) ∷ t (kind.Word word.Other) ∷ t (kind.Mark 43) ∷ t (kind.Word word.Other) ∷ t (kind.Mark 44) ∷ t (kind.Word word.Other) ∷ [])

-- `A` before `B , x`
abbrev pub a_type_ends_before_a_name : Type 0
a_type_ends_before_a_name = Takes of.Ty 1 (t (kind.Word word.Other) ∷ t (kind.Word word.Other) ∷ t (kind.Mark 44) ∷ t (kind.Word word.Other) ∷ [])

-- `$ty{ A }` before `+ B`
abbrev pub a_fragment_has_no_bounds : Type 0
a_fragment_has_no_bounds = Takes of.Ty 3 (t (kind.FragmentOpen of.Ty) ∷ t (kind.Word word.Other) ∷ t (kind.FragmentClose of.Ty) ∷ t (kind.Mark 43) ∷ t (kind.Word word.Other) ∷ [])

-- `$path{ a } + B` before `, x`
abbrev pub a_path_has_bounds : Type 0
a_path_has_bounds = Takes of.Ty 5 (t (kind.FragmentOpen of.Path) ∷ t (kind.Word word.Other) ∷ t (kind.FragmentClose of.Path) ∷ t (kind.Mark 43) ∷ t (kind.Word word.Other) ∷ t (kind.Mark 44) ∷ t (kind.Word word.Other) ∷ [])

-- `a = 1 + 2` before `, x`
abbrev pub a_meta_has_a_value : Type 0
a_meta_has_a_value = Takes of.Meta 5 (t (kind.Word word.Other) ∷ t (kind.Mark 61) ∷ t kind.Literal ∷ t (kind.Mark 43) ∷ t kind.Literal ∷ t (kind.Mark 44) ∷ t (kind.Word word.Other) ∷ [])

-- `a::b(c d)` before `, x`
abbrev pub a_meta_has_a_group : Type 0
a_meta_has_a_group = Takes of.Meta 7 (t (kind.Word word.Other) ∷ t (kind.Pair 58 58) ∷ t (kind.Word word.Other) ∷ t (kind.Open Parenthesis) ∷ t (kind.Word word.Other) ∷ t (kind.Word word.Other) ∷ t (kind.Close Parenthesis) ∷ t (kind.Mark 44) ∷ t (kind.Word word.Other) ∷ [])

-- `unsafe(a)` before `, x`
abbrev pub a_meta_is_unsafe : Type 0
a_meta_is_unsafe = Takes of.Meta 4 (t (kind.Word word.Unsafe) ∷ t (kind.Open Parenthesis) ∷ t (kind.Word word.Other) ∷ t (kind.Close Parenthesis) ∷ t (kind.Mark 44) ∷ t (kind.Word word.Other) ∷ [])

-- `a` before `< b`
abbrev pub a_meta_has_no_angles : Type 0
a_meta_has_no_angles = Takes of.Meta 1 (t (kind.Word word.Other) ∷ t (kind.Mark 60) ∷ t (kind.Word word.Other) ∷ [])

-- `-a.b[c](d)? as u8 + !e` before `, x`
abbrev pub operators : Type 0
operators = Takes of.Expr2021 16 (t (kind.Mark 45) ∷ t (kind.Word word.Other) ∷ t (kind.Mark 46) ∷ t (kind.Word word.Other) ∷ t (kind.Open Bracket) ∷ t (kind.Word word.Other) ∷ t (kind.Close Bracket) ∷ t (kind.Open Parenthesis) ∷ t (kind.Word word.Other) ∷ t (kind.Close Parenthesis) ∷ t (kind.Mark 63) ∷ t (kind.Word word.As) ∷ t (kind.Word word.Other) ∷ t (kind.Mark 43) ∷ t (kind.Mark 33) ∷ t (kind.Word word.Other) ∷ t (kind.Mark 44) ∷ t (kind.Word word.Other) ∷ [])

-- `a.b::<C<D>>(d)` before `, x`
abbrev pub a_method_has_arguments : Type 0
a_method_has_arguments = Takes of.Expr2021 13 (t (kind.Word word.Other) ∷ t (kind.Mark 46) ∷ t (kind.Word word.Other) ∷ t (kind.Pair 58 58) ∷ t (kind.Mark 60) ∷ t (kind.Word word.Other) ∷ t (kind.Mark 60) ∷ t (kind.Word word.Other) ∷ t (kind.Pair 62 62) ∷ t (kind.Mark 62) ∷ t (kind.Open Parenthesis) ∷ t (kind.Word word.Other) ∷ t (kind.Close Parenthesis) ∷ t (kind.Mark 44) ∷ t (kind.Word word.Other) ∷ [])

-- `move |a: V<u8>| a + b` before `, x`
abbrev pub a_closure : Type 0
a_closure = Takes of.Expr2021 12 (t (kind.Word word.Move) ∷ t (kind.Mark 124) ∷ t (kind.Word word.Other) ∷ t (kind.Mark 58) ∷ t (kind.Word word.Other) ∷ t (kind.Mark 60) ∷ t (kind.Word word.Other) ∷ t (kind.Mark 62) ∷ t (kind.Mark 124) ∷ t (kind.Word word.Other) ∷ t (kind.Mark 43) ∷ t (kind.Word word.Other) ∷ t (kind.Mark 44) ∷ t (kind.Word word.Other) ∷ [])

-- `|| -> V<u8> { a }.b()` before `, x`
abbrev pub a_closure_with_a_block : Type 0
a_closure_with_a_block = Takes of.Expr2021 13 (t (kind.Pair 124 124) ∷ t (kind.Pair 45 62) ∷ t (kind.Word word.Other) ∷ t (kind.Mark 60) ∷ t (kind.Word word.Other) ∷ t (kind.Mark 62) ∷ t (kind.Open Brace) ∷ t (kind.Word word.Other) ∷ t (kind.Close Brace) ∷ t (kind.Mark 46) ∷ t (kind.Word word.Other) ∷ t (kind.Open Parenthesis) ∷ t (kind.Close Parenthesis) ∷ t (kind.Mark 44) ∷ t (kind.Word word.Other) ∷ [])

-- `|a||b| a` before `, x`
abbrev pub closures : Type 0
closures = Takes of.Expr2021 6 (t (kind.Mark 124) ∷ t (kind.Word word.Other) ∷ t (kind.Pair 124 124) ∷ t (kind.Word word.Other) ∷ t (kind.Mark 124) ∷ t (kind.Word word.Other) ∷ t (kind.Mark 44) ∷ t (kind.Word word.Other) ∷ [])

-- `if a { b } else if c { d } else { e } + 1` before `, x`
abbrev pub a_condition : Type 0
a_condition = Takes of.Expr2021 17 (t (kind.Word word.If) ∷ t (kind.Word word.Other) ∷ t (kind.Open Brace) ∷ t (kind.Word word.Other) ∷ t (kind.Close Brace) ∷ t (kind.Word word.Else) ∷ t (kind.Word word.If) ∷ t (kind.Word word.Other) ∷ t (kind.Open Brace) ∷ t (kind.Word word.Other) ∷ t (kind.Close Brace) ∷ t (kind.Word word.Else) ∷ t (kind.Open Brace) ∷ t (kind.Word word.Other) ∷ t (kind.Close Brace) ∷ t (kind.Mark 43) ∷ t kind.Literal ∷ t (kind.Mark 44) ∷ t (kind.Word word.Other) ∷ [])

-- `if a == b {}` before `, x`
abbrev pub a_head_has_no_fields : Type 0
a_head_has_no_fields = Takes of.Expr2021 6 (t (kind.Word word.If) ∷ t (kind.Word word.Other) ∷ t (kind.Pair 61 61) ∷ t (kind.Word word.Other) ∷ t (kind.Open Brace) ∷ t (kind.Close Brace) ∷ t (kind.Mark 44) ∷ t (kind.Word word.Other) ∷ [])

-- `if if a { b } else { c } { d }` before `, x`
abbrev pub heads_nest : Type 0
heads_nest = Takes of.Expr2021 13 (t (kind.Word word.If) ∷ t (kind.Word word.If) ∷ t (kind.Word word.Other) ∷ t (kind.Open Brace) ∷ t (kind.Word word.Other) ∷ t (kind.Close Brace) ∷ t (kind.Word word.Else) ∷ t (kind.Open Brace) ∷ t (kind.Word word.Other) ∷ t (kind.Close Brace) ∷ t (kind.Open Brace) ∷ t (kind.Word word.Other) ∷ t (kind.Close Brace) ∷ t (kind.Mark 44) ∷ t (kind.Word word.Other) ∷ [])

-- `while let A { b } = b.c() {}` before `, x`
abbrev pub a_pattern_in_a_head : Type 0
a_pattern_in_a_head = Takes of.Expr2021 14 (t (kind.Word word.While) ∷ t (kind.Word word.Let) ∷ t (kind.Word word.Other) ∷ t (kind.Open Brace) ∷ t (kind.Word word.Other) ∷ t (kind.Close Brace) ∷ t (kind.Mark 61) ∷ t (kind.Word word.Other) ∷ t (kind.Mark 46) ∷ t (kind.Word word.Other) ∷ t (kind.Open Parenthesis) ∷ t (kind.Close Parenthesis) ∷ t (kind.Open Brace) ∷ t (kind.Close Brace) ∷ t (kind.Mark 44) ∷ t (kind.Word word.Other) ∷ [])

-- `'a: for i in 0.. { break 'a }` before `, x`
abbrev pub a_loop : Type 0
a_loop = Takes of.Expr2021 11 (t kind.Lifetime ∷ t (kind.Mark 58) ∷ t (kind.Word word.For) ∷ t (kind.Word word.Other) ∷ t (kind.Word word.In) ∷ t kind.Literal ∷ t (kind.Pair 46 46) ∷ t (kind.Open Brace) ∷ t (kind.Word word.Break) ∷ t kind.Lifetime ∷ t (kind.Close Brace) ∷ t (kind.Mark 44) ∷ t (kind.Word word.Other) ∷ [])

-- `match a.b { _ => c }.d` before `, x`
abbrev pub a_match : Type 0
a_match = Takes of.Expr2021 11 (t (kind.Word word.Match) ∷ t (kind.Word word.Other) ∷ t (kind.Mark 46) ∷ t (kind.Word word.Other) ∷ t (kind.Open Brace) ∷ t (kind.Word word.Underscore) ∷ t (kind.Pair 61 62) ∷ t (kind.Word word.Other) ∷ t (kind.Close Brace) ∷ t (kind.Mark 46) ∷ t (kind.Word word.Other) ∷ t (kind.Mark 44) ∷ t (kind.Word word.Other) ∷ [])

-- `a::A::<B> { c }` before `, x`
abbrev pub fields : Type 0
fields = Takes of.Expr2021 10 (t (kind.Word word.Other) ∷ t (kind.Pair 58 58) ∷ t (kind.Word word.Other) ∷ t (kind.Pair 58 58) ∷ t (kind.Mark 60) ∷ t (kind.Word word.Other) ∷ t (kind.Mark 62) ∷ t (kind.Open Brace) ∷ t (kind.Word word.Other) ∷ t (kind.Close Brace) ∷ t (kind.Mark 44) ∷ t (kind.Word word.Other) ∷ [])

-- `&raw const a` before `, x`
abbrev pub a_borrow : Type 0
a_borrow = Takes of.Expr2021 4 (t (kind.Mark 38) ∷ t (kind.Word word.Other) ∷ t (kind.Word word.Const) ∷ t (kind.Word word.Other) ∷ t (kind.Mark 44) ∷ t (kind.Word word.Other) ∷ [])

-- `a >>= b` before `, x`
abbrev pub an_assignment : Type 0
an_assignment = Takes of.Expr2021 5 (t (kind.Word word.Other) ∷ t (kind.Triple 62 62 61) ∷ t (kind.Pair 62 61) ∷ t (kind.Mark 61) ∷ t (kind.Word word.Other) ∷ t (kind.Mark 44) ∷ t (kind.Word word.Other) ∷ [])

-- `a as usize >> 1` before `, x`
abbrev pub a_cast : Type 0
a_cast = Takes of.Expr2021 6 (t (kind.Word word.Other) ∷ t (kind.Word word.As) ∷ t (kind.Word word.Other) ∷ t (kind.Pair 62 62) ∷ t (kind.Mark 62) ∷ t kind.Literal ∷ t (kind.Mark 44) ∷ t (kind.Word word.Other) ∷ [])

-- `return if a { b } else { c }` before `, x`
abbrev pub a_return : Type 0
a_return = Takes of.Expr2021 10 (t (kind.Word word.Return) ∷ t (kind.Word word.If) ∷ t (kind.Word word.Other) ∷ t (kind.Open Brace) ∷ t (kind.Word word.Other) ∷ t (kind.Close Brace) ∷ t (kind.Word word.Else) ∷ t (kind.Open Brace) ∷ t (kind.Word word.Other) ∷ t (kind.Close Brace) ∷ t (kind.Mark 44) ∷ t (kind.Word word.Other) ∷ [])

-- `return` before `, x`
abbrev pub nothing_returned : Type 0
nothing_returned = Takes of.Expr2021 1 (t (kind.Word word.Return) ∷ t (kind.Mark 44) ∷ t (kind.Word word.Other) ∷ [])

-- `a..=b` before `, x`
abbrev pub a_range : Type 0
a_range = Takes of.Expr2021 3 (t (kind.Word word.Other) ∷ t (kind.Triple 46 46 61) ∷ t (kind.Word word.Other) ∷ t (kind.Mark 44) ∷ t (kind.Word word.Other) ∷ [])

-- `a..` before `= c`
abbrev pub an_open_range : Type 0
an_open_range = Takes of.Expr2021 2 (t (kind.Word word.Other) ∷ t (kind.Pair 46 46) ∷ t (kind.Mark 61) ∷ t (kind.Word word.Other) ∷ [])

-- `a >= b` before `=> x`
abbrev pub an_expression_ends_before_an_arrow : Type 0
an_expression_ends_before_an_arrow = Takes of.Expr2021 4 (t (kind.Word word.Other) ∷ t (kind.Pair 62 61) ∷ t (kind.Mark 61) ∷ t (kind.Word word.Other) ∷ t (kind.Pair 61 62) ∷ t (kind.Word word.Other) ∷ [])

-- `a` before `b , x`
abbrev pub an_expression_ends_before_a_name : Type 0
an_expression_ends_before_a_name = Takes of.Expr2021 1 (t (kind.Word word.Other) ∷ t (kind.Word word.Other) ∷ t (kind.Mark 44) ∷ t (kind.Word word.Other) ∷ [])

-- `$expr{ a } + 1` before `, x`
abbrev pub an_expression_goes_on : Type 0
an_expression_goes_on = Takes of.Expr2021 5 (t (kind.FragmentOpen of.Expr2021) ∷ t (kind.Word word.Other) ∷ t (kind.FragmentClose of.Expr2021) ∷ t (kind.Mark 43) ∷ t kind.Literal ∷ t (kind.Mark 44) ∷ t (kind.Word word.Other) ∷ [])

-- `$path{ a }` before `{ }`
abbrev pub a_path_fragment_has_no_fields : Type 0
a_path_fragment_has_no_fields = Takes of.Expr2021 3 (t (kind.FragmentOpen of.Path) ∷ t (kind.Word word.Other) ∷ t (kind.FragmentClose of.Path) ∷ t (kind.Open Brace) ∷ t (kind.Close Brace) ∷ [])

-- `| A | B(c)` before `, x`
abbrev pub bars : Type 0
bars = Takes of.Pat 7 (t (kind.Mark 124) ∷ t (kind.Word word.Other) ∷ t (kind.Mark 124) ∷ t (kind.Word word.Other) ∷ t (kind.Open Parenthesis) ∷ t (kind.Word word.Other) ∷ t (kind.Close Parenthesis) ∷ t (kind.Mark 44) ∷ t (kind.Word word.Other) ∷ [])

-- `ref mut a @ Some(_)` before `, x`
abbrev pub a_pattern_in_a_name : Type 0
a_pattern_in_a_name = Takes of.Pat 8 (t (kind.Word word.Ref) ∷ t (kind.Word word.Mut) ∷ t (kind.Word word.Other) ∷ t (kind.Mark 64) ∷ t (kind.Word word.Other) ∷ t (kind.Open Parenthesis) ∷ t (kind.Word word.Underscore) ∷ t (kind.Close Parenthesis) ∷ t (kind.Mark 44) ∷ t (kind.Word word.Other) ∷ [])

-- `-1..=2` before `, x`
abbrev pub a_range_of_literals : Type 0
a_range_of_literals = Takes of.Pat 4 (t (kind.Mark 45) ∷ t kind.Literal ∷ t (kind.Triple 46 46 61) ∷ t kind.Literal ∷ t (kind.Mark 44) ∷ t (kind.Word word.Other) ∷ [])

-- `a::B..=C` before `, x`
abbrev pub a_range_of_paths : Type 0
a_range_of_paths = Takes of.Pat 5 (t (kind.Word word.Other) ∷ t (kind.Pair 58 58) ∷ t (kind.Word word.Other) ∷ t (kind.Triple 46 46 61) ∷ t (kind.Word word.Other) ∷ t (kind.Mark 44) ∷ t (kind.Word word.Other) ∷ [])

-- `1..` before `=> x`
abbrev pub an_open_range_pattern : Type 0
an_open_range_pattern = Takes of.Pat 2 (t kind.Literal ∷ t (kind.Pair 46 46) ∷ t (kind.Pair 61 62) ∷ t (kind.Word word.Other) ∷ [])

-- `&A::B { c, .. }` before `, x`
abbrev pub a_struct_pattern : Type 0
a_struct_pattern = Takes of.Pat 9 (t (kind.Mark 38) ∷ t (kind.Word word.Other) ∷ t (kind.Pair 58 58) ∷ t (kind.Word word.Other) ∷ t (kind.Open Brace) ∷ t (kind.Word word.Other) ∷ t (kind.Mark 44) ∷ t (kind.Pair 46 46) ∷ t (kind.Close Brace) ∷ t (kind.Mark 44) ∷ t (kind.Word word.Other) ∷ [])

-- `<A as B>::C` before `, x`
abbrev pub a_qualified_pattern : Type 0
a_qualified_pattern = Takes of.Pat 7 (t (kind.Mark 60) ∷ t (kind.Word word.Other) ∷ t (kind.Word word.As) ∷ t (kind.Word word.Other) ∷ t (kind.Mark 62) ∷ t (kind.Pair 58 58) ∷ t (kind.Word word.Other) ∷ t (kind.Mark 44) ∷ t (kind.Word word.Other) ∷ [])

-- `A` before `if x`
abbrev pub a_pattern_ends_before_if : Type 0
a_pattern_ends_before_if = Takes of.Pat 1 (t (kind.Word word.Other) ∷ t (kind.Word word.If) ∷ t (kind.Word word.Other) ∷ [])

-- `A` before `B , x`
abbrev pub a_pattern_ends_before_a_name : Type 0
a_pattern_ends_before_a_name = Takes of.Pat 1 (t (kind.Word word.Other) ∷ t (kind.Word word.Other) ∷ t (kind.Mark 44) ∷ t (kind.Word word.Other) ∷ [])

-- `- $literal{ 1 }` before `, x`
abbrev pub a_literal_fragment : Type 0
a_literal_fragment = Takes of.Pat 4 (t (kind.Mark 45) ∷ t (kind.FragmentOpen of.Literal) ∷ t kind.Literal ∷ t (kind.FragmentClose of.Literal) ∷ t (kind.Mark 44) ∷ t (kind.Word word.Other) ∷ [])

-- `A(b)` before `| x`
abbrev pub no_bars : Type 0
no_bars = Takes of.PatParam 4 (t (kind.Word word.Other) ∷ t (kind.Open Parenthesis) ∷ t (kind.Word word.Other) ∷ t (kind.Close Parenthesis) ∷ t (kind.Mark 124) ∷ t (kind.Word word.Other) ∷ [])

-- `let Some(a): T<u8> = b else { return }` before `; x`
abbrev pub a_let : Type 0
a_let = Takes of.Stmt 16 (t (kind.Word word.Let) ∷ t (kind.Word word.Other) ∷ t (kind.Open Parenthesis) ∷ t (kind.Word word.Other) ∷ t (kind.Close Parenthesis) ∷ t (kind.Mark 58) ∷ t (kind.Word word.Other) ∷ t (kind.Mark 60) ∷ t (kind.Word word.Other) ∷ t (kind.Mark 62) ∷ t (kind.Mark 61) ∷ t (kind.Word word.Other) ∷ t (kind.Word word.Else) ∷ t (kind.Open Brace) ∷ t (kind.Word word.Return) ∷ t (kind.Close Brace) ∷ t (kind.Mark 59) ∷ t (kind.Word word.Other) ∷ [])

-- `{ a }` before `+ 1 ; x`
abbrev pub a_block_ends_a_statement : Type 0
a_block_ends_a_statement = Takes of.Stmt 3 (t (kind.Open Brace) ∷ t (kind.Word word.Other) ∷ t (kind.Close Brace) ∷ t (kind.Mark 43) ∷ t kind.Literal ∷ t (kind.Mark 59) ∷ t (kind.Word word.Other) ∷ [])

-- `match a {}.b + 1` before `; x`
abbrev pub a_block_with_a_method : Type 0
a_block_with_a_method = Takes of.Stmt 8 (t (kind.Word word.Match) ∷ t (kind.Word word.Other) ∷ t (kind.Open Brace) ∷ t (kind.Close Brace) ∷ t (kind.Mark 46) ∷ t (kind.Word word.Other) ∷ t (kind.Mark 43) ∷ t kind.Literal ∷ t (kind.Mark 59) ∷ t (kind.Word word.Other) ∷ [])

-- `m!{}` before `+ 1 ; x`
abbrev pub a_macro_ends_a_statement : Type 0
a_macro_ends_a_statement = Takes of.Stmt 4 (t (kind.Word word.Other) ∷ t (kind.Mark 33) ∷ t (kind.Open Brace) ∷ t (kind.Close Brace) ∷ t (kind.Mark 43) ∷ t kind.Literal ∷ t (kind.Mark 59) ∷ t (kind.Word word.Other) ∷ [])

-- `m!() + 1` before `; x`
abbrev pub a_macro_goes_on : Type 0
a_macro_goes_on = Takes of.Stmt 6 (t (kind.Word word.Other) ∷ t (kind.Mark 33) ∷ t (kind.Open Parenthesis) ∷ t (kind.Close Parenthesis) ∷ t (kind.Mark 43) ∷ t kind.Literal ∷ t (kind.Mark 59) ∷ t (kind.Word word.Other) ∷ [])

-- `unsafe fn f() {}` before `; x`
abbrev pub an_item : Type 0
an_item = Takes of.Stmt 7 (t (kind.Word word.Unsafe) ∷ t (kind.Word word.Fn) ∷ t (kind.Word word.Other) ∷ t (kind.Open Parenthesis) ∷ t (kind.Close Parenthesis) ∷ t (kind.Open Brace) ∷ t (kind.Close Brace) ∷ t (kind.Mark 59) ∷ t (kind.Word word.Other) ∷ [])

-- `unsafe { a }` before `; x`
abbrev pub an_unsafe_block : Type 0
an_unsafe_block = Takes of.Stmt 4 (t (kind.Word word.Unsafe) ∷ t (kind.Open Brace) ∷ t (kind.Word word.Other) ∷ t (kind.Close Brace) ∷ t (kind.Mark 59) ∷ t (kind.Word word.Other) ∷ [])

-- `;` before `; x`
abbrev pub a_semicolon : Type 0
a_semicolon = Takes of.Stmt 1 (t (kind.Mark 59) ∷ t (kind.Mark 59) ∷ t (kind.Word word.Other) ∷ [])

-- `union + 1` before `; x`
abbrev pub a_name_like_an_item : Type 0
a_name_like_an_item = Takes of.Stmt 3 (t (kind.Word word.Union) ∷ t (kind.Mark 43) ∷ t kind.Literal ∷ t (kind.Mark 59) ∷ t (kind.Word word.Other) ∷ [])

-- `#[a] pub(crate) struct A<T>(T) where T: B;` before `x`
abbrev pub a_struct : Type 0
a_struct = Takes of.Item 21 (t (kind.Mark 35) ∷ t (kind.Open Bracket) ∷ t (kind.Word word.Other) ∷ t (kind.Close Bracket) ∷ t (kind.Word word.Pub) ∷ t (kind.Open Parenthesis) ∷ t (kind.Word word.Crate) ∷ t (kind.Close Parenthesis) ∷ t (kind.Word word.Struct) ∷ t (kind.Word word.Other) ∷ t (kind.Mark 60) ∷ t (kind.Word word.Other) ∷ t (kind.Mark 62) ∷ t (kind.Open Parenthesis) ∷ t (kind.Word word.Other) ∷ t (kind.Close Parenthesis) ∷ t (kind.Word word.Where) ∷ t (kind.Word word.Other) ∷ t (kind.Mark 58) ∷ t (kind.Word word.Other) ∷ t (kind.Mark 59) ∷ t (kind.Word word.Other) ∷ [])

-- `fn a() -> ! {}` before `x`
abbrev pub a_function_with_a_body : Type 0
a_function_with_a_body = Takes of.Item 8 (t (kind.Word word.Fn) ∷ t (kind.Word word.Other) ∷ t (kind.Open Parenthesis) ∷ t (kind.Close Parenthesis) ∷ t (kind.Pair 45 62) ∷ t (kind.Mark 33) ∷ t (kind.Open Brace) ∷ t (kind.Close Brace) ∷ t (kind.Word word.Other) ∷ [])

-- `fn a() -> B<{ N }> where C: D<{ 1 }> {}` before `x`
abbrev pub braces_in_angles : Type 0
braces_in_angles = Takes of.Item 22 (t (kind.Word word.Fn) ∷ t (kind.Word word.Other) ∷ t (kind.Open Parenthesis) ∷ t (kind.Close Parenthesis) ∷ t (kind.Pair 45 62) ∷ t (kind.Word word.Other) ∷ t (kind.Mark 60) ∷ t (kind.Open Brace) ∷ t (kind.Word word.Other) ∷ t (kind.Close Brace) ∷ t (kind.Mark 62) ∷ t (kind.Word word.Where) ∷ t (kind.Word word.Other) ∷ t (kind.Mark 58) ∷ t (kind.Word word.Other) ∷ t (kind.Mark 60) ∷ t (kind.Open Brace) ∷ t kind.Literal ∷ t (kind.Close Brace) ∷ t (kind.Mark 62) ∷ t (kind.Open Brace) ∷ t (kind.Close Brace) ∷ t (kind.Word word.Other) ∷ [])

-- `const A: bool = { 1 } < 2;` before `x`
abbrev pub a_constant : Type 0
a_constant = Takes of.Item 11 (t (kind.Word word.Const) ∷ t (kind.Word word.Other) ∷ t (kind.Mark 58) ∷ t (kind.Word word.Other) ∷ t (kind.Mark 61) ∷ t (kind.Open Brace) ∷ t kind.Literal ∷ t (kind.Close Brace) ∷ t (kind.Mark 60) ∷ t kind.Literal ∷ t (kind.Mark 59) ∷ t (kind.Word word.Other) ∷ [])

-- `unsafe impl !A for m!{} {}` before `x`
abbrev pub an_implementation : Type 0
an_implementation = Takes of.Item 11 (t (kind.Word word.Unsafe) ∷ t (kind.Word word.Impl) ∷ t (kind.Mark 33) ∷ t (kind.Word word.Other) ∷ t (kind.Word word.For) ∷ t (kind.Word word.Other) ∷ t (kind.Mark 33) ∷ t (kind.Open Brace) ∷ t (kind.Close Brace) ∷ t (kind.Open Brace) ∷ t (kind.Close Brace) ∷ t (kind.Word word.Other) ∷ [])

-- `a::m![b];` before `x`
abbrev pub a_macro_call : Type 0
a_macro_call = Takes of.Item 8 (t (kind.Word word.Other) ∷ t (kind.Pair 58 58) ∷ t (kind.Word word.Other) ∷ t (kind.Mark 33) ∷ t (kind.Open Bracket) ∷ t (kind.Word word.Other) ∷ t (kind.Close Bracket) ∷ t (kind.Mark 59) ∷ t (kind.Word word.Other) ∷ [])

-- `macro_rules! a { () => {} }` before `x`
abbrev pub a_definition : Type 0
a_definition = Takes of.Item 10 (t (kind.Word word.MacroRules) ∷ t (kind.Mark 33) ∷ t (kind.Word word.Other) ∷ t (kind.Open Brace) ∷ t (kind.Open Parenthesis) ∷ t (kind.Close Parenthesis) ∷ t (kind.Pair 61 62) ∷ t (kind.Open Brace) ∷ t (kind.Close Brace) ∷ t (kind.Close Brace) ∷ t (kind.Word word.Other) ∷ [])

-- `extern "C" { fn a(); }` before `x`
abbrev pub externs : Type 0
externs = Takes of.Item 9 (t (kind.Word word.Extern) ∷ t kind.Literal ∷ t (kind.Open Brace) ∷ t (kind.Word word.Fn) ∷ t (kind.Word word.Other) ∷ t (kind.Open Parenthesis) ∷ t (kind.Close Parenthesis) ∷ t (kind.Mark 59) ∷ t (kind.Close Brace) ∷ t (kind.Word word.Other) ∷ [])

-- `$vis{ } struct A;` before `x`
abbrev pub a_visibility_fragment : Type 0
a_visibility_fragment = Takes of.Item 5 (t (kind.FragmentOpen of.Vis) ∷ t (kind.FragmentClose of.Vis) ∷ t (kind.Word word.Struct) ∷ t (kind.Word word.Other) ∷ t (kind.Mark 59) ∷ t (kind.Word word.Other) ∷ [])

-- `fn f() $block{ { a } }` before `x`
abbrev pub a_body_fragment : Type 0
a_body_fragment = Takes of.Item 9 (t (kind.Word word.Fn) ∷ t (kind.Word word.Other) ∷ t (kind.Open Parenthesis) ∷ t (kind.Close Parenthesis) ∷ t (kind.FragmentOpen of.Block) ∷ t (kind.Open Brace) ∷ t (kind.Word word.Other) ∷ t (kind.Close Brace) ∷ t (kind.FragmentClose of.Block) ∷ t (kind.Word word.Other) ∷ [])

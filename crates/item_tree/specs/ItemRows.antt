-- Items that are easy to read wrongly, and how they are read.
use Rattle.std.specs.Prelude.{◌+◌, ◌-◌, ℕ, Bool, List, [], ◌∷◌, Option, Some, None, length}
use Rattle.item_tree.specs.Delimiters.{partners_of}
use Rattle.item_tree.specs.Heads.{nothing}
use Rattle.item_tree.specs.Implementations.{names_trait}
use Rattle.item_tree.specs.ItemParts.{first_item}
use Rattle.item_tree.specs.Items.{level_of}
use Rattle.item_tree.specs.Members.{before_comma, first_member, start}
use Rattle.item_tree.specs.UseGrammar.{Nothing, Behind, Written, Name, Renamed, Glob, List_, WrittenList, Last, More}
use Rattle.item_tree.specs.UseTrees.{use_trees_of}
use Rattle.item_tree.specs.declared.cfg.cfg_if.LevelKind.{LevelKind}
use Rattle.item_tree.specs.declared.cfg.cfg_if.LevelKind.TheVariants.{FirstArm, SelectArm}
use Rattle.item_tree.specs.declared.items.expected.Expected.{Expected}
use Rattle.item_tree.specs.declared.items.item_kind.ItemKind.{ItemKind}
use Rattle.item_tree.specs.declared.items.item_kind.ItemKind.TheVariants as item
use Rattle.item_tree.specs.declared.items.item_parts.ItemParts.{ItemParts}
use Rattle.item_tree.specs.declared.items.Item.{Item}
use Rattle.item_tree.specs.declared.items.Range.{Range}
use Rattle.item_tree.specs.declared.lexer.lexeme.Delimiter.TheVariants.{Parenthesis, Bracket, Brace}
use Rattle.item_tree.specs.declared.lexer.lexeme.Lexeme.{Lexeme}
use Rattle.item_tree.specs.declared.lexer.lexeme.LexemeKind.{LexemeKind}
use Rattle.item_tree.specs.declared.lexer.lexeme.LexemeKind.TheVariants.{Word, Open, Close, Mark, Lifetime, Str}
use Rattle.item_tree.specs.declared.items.members.MemberKind.TheVariants.{RecordField}
use Rattle.item_tree.specs.declared.lexer.trees.Tree.{Tree}
use Rattle.item_tree.specs.declared.items.use_tree.UseTree.{UseTree}
use Rattle.item_tree.specs.declared.items.use_tree.UseTreeKind.{UseTreeKind}
use Rattle.item_tree.specs.declared.lexer.word.Word.TheVariants as word

-- trees of these kinds, of one lexeme each
abbrev pub trees_at : ℕ → List LexemeKind → List Tree
trees_at i [] = []
trees_at i (k ∷ ks) = record { kind = k; first = i; behind = i + 1 } ∷ trees_at (i + 1) ks

abbrev pub lexemes_at : ℕ → List LexemeKind → List Lexeme
lexemes_at i [] = []
lexemes_at i (k ∷ ks) = record { kind = k; start = i; len = 1 } ∷ lexemes_at (i + 1) ks

abbrev pub name : LexemeKind
name = Word word.Other

abbrev pub parts : ItemKind → ℕ → ℕ → ℕ → Option ℕ → ℕ → ItemParts
parts k attributes visibility own name_at len = record { kind = k; attributes = attributes; visibility = visibility; word = own; name = name_at; len = len; missing = None }

-- those of an item that misses its end
abbrev pub cut : ItemKind → Option ℕ → ℕ → Expected → ItemParts
cut k name_at len e = record { kind = k; attributes = 0; visibility = 0; word = 0; name = name_at; len = len; missing = Some e }

abbrev pub first : List LexemeKind → ItemParts
first ks = first_item (trees_at 0 ks)

-- #[..] pub(..) const unsafe extern "C" fn f(..) {..} ;
abbrev pub qualified : ItemParts
qualified =
    first (Mark 35 ∷ Open Bracket ∷ Word word.Pub ∷ Open Parenthesis ∷ Word word.Const ∷ Word word.Unsafe ∷ Word word.Extern ∷ Str ∷ Word word.Fn ∷ name ∷ Open Parenthesis ∷ Open Brace ∷ Mark 59 ∷ [])

-- const _ : (..) = {..} ;
abbrev pub unnamed : ItemParts
unnamed = first (Word word.Const ∷ Word word.Underscore ∷ Mark 58 ∷ Open Parenthesis ∷ Mark 61 ∷ Open Brace ∷ Mark 59 ∷ name ∷ [])

-- union ! {..} ; and union union {..}
abbrev pub union_call : ItemParts
union_call = first (Word word.Union ∷ Mark 33 ∷ Open Brace ∷ Mark 59 ∷ [])

abbrev pub union_item : ItemParts
union_item = first (Word word.Union ∷ Word word.Union ∷ Open Brace ∷ Mark 59 ∷ [])

-- impl a < {..} > {..}, and fn f < a - > a < {..} >> (..) {..}
abbrev pub braces_in_angles : ItemParts
braces_in_angles = first (Word word.Impl ∷ name ∷ Mark 60 ∷ Open Brace ∷ Mark 62 ∷ Open Brace ∷ name ∷ [])

abbrev pub arrow_in_angles : ItemParts
arrow_in_angles =
    first (Word word.Fn ∷ name ∷ Mark 60 ∷ name ∷ Mark 45 ∷ Mark 62 ∷ name ∷ Mark 60 ∷ Open Brace ∷ Mark 62 ∷ Mark 62 ∷ Open Parenthesis ∷ Open Brace ∷ name ∷ [])

-- macro_rules ! a [..] ; and :: a :: b ! {..} ;
abbrev pub rules : ItemParts
rules = first (Word word.MacroRules ∷ Mark 33 ∷ name ∷ Open Bracket ∷ Mark 59 ∷ name ∷ [])

abbrev pub call : ItemParts
call = first (Mark 58 ∷ Mark 58 ∷ name ∷ Mark 58 ∷ Mark 58 ∷ name ∷ Mark 33 ∷ Open Brace ∷ Mark 59 ∷ [])

-- # ! [..] and #[..] alone
abbrev pub inner : ItemParts
inner = first (Mark 35 ∷ Mark 33 ∷ Open Bracket ∷ Word word.Use ∷ [])

abbrev pub attributes_alone : ItemParts
attributes_alone = first (Mark 35 ∷ Open Bracket ∷ Mark 59 ∷ [])

-- use a :: b const fn, and use a extern crate
abbrev pub cut_use : ItemParts
cut_use = first (Word word.Use ∷ name ∷ Mark 58 ∷ Mark 58 ∷ name ∷ Word word.Const ∷ Word word.Fn ∷ name ∷ Open Parenthesis ∷ Open Brace ∷ [])

abbrev pub cut_crate : ItemParts
cut_crate = first (Word word.Extern ∷ Word word.Crate ∷ name ∷ Word word.Extern ∷ Word word.Crate ∷ name ∷ Mark 59 ∷ [])

-- const a : * const a = a < {..} pub, and type a < #[..] a > = impl a + use < 'a > const _ : a
abbrev pub cut_const : ItemParts
cut_const =
    first (Word word.Const ∷ name ∷ Mark 58 ∷ Mark 42 ∷ Word word.Const ∷ name ∷ Mark 61 ∷ name ∷ Mark 60 ∷ Open Brace ∷ Word word.Pub ∷ Word word.Fn ∷ Mark 59 ∷ [])

abbrev pub cut_type : ItemParts
cut_type =
    first
    (Word word.Type ∷ name ∷ Mark 60 ∷ Mark 35 ∷ Open Bracket ∷ name ∷ Mark 62 ∷ Mark 61 ∷ Word word.Impl ∷ name ∷ Mark 43 ∷ Word word.Use ∷ Mark 60 ∷ Lifetime ∷ Mark 62 ∷ Word word.Const ∷ Word word.Underscore ∷ Mark 58 ∷ name ∷ [])

-- struct a (..) impl a {..}, and static a : a = static | | {..} macro_rules ! a {..}
abbrev pub cut_struct : ItemParts
cut_struct = first (Word word.Struct ∷ name ∷ Open Parenthesis ∷ Word word.Impl ∷ name ∷ Open Brace ∷ [])

abbrev pub cut_static : ItemParts
cut_static =
    first (Word word.Static ∷ name ∷ Mark 58 ∷ name ∷ Mark 61 ∷ Word word.Static ∷ Mark 124 ∷ Mark 124 ∷ Open Brace ∷ Word word.MacroRules ∷ Mark 33 ∷ name ∷ Open Brace ∷ [])

-- fn a < const a : a (..) - > unsafe fn (..) unsafe trait a {..}, and fn a (..) alone
abbrev pub cut_function : ItemParts
cut_function =
    first
    (Word word.Fn ∷ name ∷ Mark 60 ∷ Word word.Const ∷ name ∷ Mark 58 ∷ name ∷ Open Parenthesis ∷ Mark 45 ∷ Mark 62 ∷ Word word.Unsafe ∷ Word word.Fn ∷ Open Parenthesis ∷ Word word.Unsafe ∷ Word word.Trait ∷ name ∷ Open Brace ∷ [])

abbrev pub cut_level : ItemParts
cut_level = first (Word word.Fn ∷ name ∷ Open Parenthesis ∷ [])

-- a ! (..) a, and macro_rules ! a
abbrev pub cut_call : ItemParts
cut_call = first (name ∷ Mark 33 ∷ Open Parenthesis ∷ name ∷ [])

abbrev pub cut_rules : ItemParts
cut_rules = first (Word word.MacroRules ∷ Mark 33 ∷ name ∷ Word word.Mod ∷ name ∷ Mark 59 ∷ [])

abbrev pub arms_in : LevelKind → List Lexeme → List Item
arms_in kind ls = level_of ls (partners_of ls) (Some 0) (record { kind = kind; range = record { first = 0; behind = length ls } })

abbrev pub arm : ℕ → ℕ → ℕ → Item
arm first_at braces behind_at =
    record {
      kind = item.CfgArm;
      parent = Some 0;
      first = first_at;
      visibility = braces;
      qualifiers = braces;
      word = braces;
      name = None;
      behind = behind_at;
      body = Some (record { first = braces + 1; behind = behind_at - 1 });
      missing = None;
    }

abbrev pub no_arm : ℕ → Item
no_arm i = record { kind = item.Error; parent = Some 0; first = i; visibility = i; qualifiers = i; word = i; name = None; behind = i + 1; body = None; missing = None }

-- if # [ ] { a } else if # [ ] { } else { } else
abbrev pub arms : List Item
arms =
    arms_in FirstArm
    (lexemes_at 0 (Word word.If ∷ Mark 35 ∷ Open Bracket ∷ Close Bracket ∷ Open Brace ∷ name ∷ Close Brace ∷ Word word.Else ∷ Word word.If ∷ Mark 35 ∷ Open Bracket ∷ Close Bracket ∷ Open Brace ∷ Close Brace ∷ Word word.Else ∷ Open Brace ∷ Close Brace ∷ Word word.Else ∷ []))

-- an arm with these places of its predicate and its arrow
abbrev pub select_arm : ℕ → ℕ → ℕ → ℕ → Option Range → Item
select_arm first_at predicate arrow behind_at body_at =
    record {
      kind = item.CfgArm;
      parent = Some 0;
      first = first_at;
      visibility = predicate;
      qualifiers = predicate;
      word = arrow;
      name = None;
      behind = behind_at;
      body = body_at;
      missing = None;
    }

abbrev pub between : ℕ → ℕ → Option Range
between from end = Some (record { first = from; behind = end })

-- a = ".." = > { a } , _ = > { } ,
abbrev pub select_arms : List Item
select_arms =
    arms_in SelectArm
    (lexemes_at 0 (name ∷ Mark 61 ∷ Str ∷ Mark 61 ∷ Mark 62 ∷ Open Brace ∷ name ∷ Close Brace ∷ Mark 44 ∷ Word word.Underscore ∷ Mark 61 ∷ Mark 62 ∷ Open Brace ∷ Close Brace ∷ Mark 44 ∷ []))

-- a = > a
abbrev pub no_select_arms : List Item
no_select_arms = arms_in SelectArm (lexemes_at 0 (name ∷ Mark 61 ∷ Mark 62 ∷ name ∷ []))

-- { ( ] { } ) [ }
abbrev pub partners : List ℕ
partners =
    partners_of (lexemes_at 0 (Open Brace ∷ Open Parenthesis ∷ Close Bracket ∷ Open Brace ∷ Close Brace ∷ Close Parenthesis ∷ Open Bracket ∷ Close Brace ∷ []))

-- { ( }
abbrev pub unclosed : List ℕ
unclosed = partners_of (lexemes_at 0 (Open Brace ∷ Open Parenthesis ∷ Close Brace ∷ []))

abbrev pub leaf : UseTreeKind → Option ℕ → ℕ → ℕ → Option ℕ → ℕ → UseTree
leaf k parent from end alias behind = record { kind = k; parent = parent; path = record { first = from; behind = end }; alias = alias; behind = behind }

-- a :: { self , b as _ , * }
abbrev pub nested_lexemes : List Lexeme
nested_lexemes =
    lexemes_at 0 (name ∷ Mark 58 ∷ Mark 58 ∷ Open Brace ∷ Word word.SelfValue ∷ Mark 44 ∷ name ∷ Word word.As ∷ Word word.Underscore ∷ Mark 44 ∷ Mark 42 ∷ Close Brace ∷ [])

abbrev pub nested_use : List UseTree
nested_use = use_trees_of nested_lexemes (record { first = 0; behind = 12 })

-- the same by the grammar
abbrev pub at : ℕ → LexemeKind → Lexeme
at i k = record { kind = k; start = i; len = 1 }

abbrev pub written_list : WrittenList
written_list =
    More (Name Nothing (at 4 (Word word.SelfValue))) (at 5 (Mark 44)) (
    More (Renamed Nothing (at 6 name) (at 7 (Word word.As)) (at 8 (Word word.Underscore))) (at 9 (Mark 44)) (
    Last (Glob Nothing (at 10 (Mark 42))) (at 11 (Close Brace))))

abbrev pub written_use : Written
written_use = List_ (Behind Nothing (at 0 name) (at 1 (Mark 58)) (at 2 (Mark 58))) (at 3 (Open Brace)) written_list

-- whether an implementation is one of a trait
abbrev pub of_a_trait : List LexemeKind → Bool
of_a_trait ks = names_trait nothing 0 (trees_at 0 ks)

-- impl name for for < 'a > fn (..) {..}
abbrev pub for_a_function : Bool
for_a_function = of_a_trait (Word word.Impl ∷ name ∷ Word word.For ∷ Word word.For ∷ Mark 60 ∷ Lifetime ∷ Mark 62 ∷ Word word.Fn ∷ Open Parenthesis ∷ Open Brace ∷ [])

-- impl name ( .. ) - > name for name {..}
abbrev pub behind_an_arrow : Bool
behind_an_arrow = of_a_trait (Word word.Impl ∷ name ∷ Open Parenthesis ∷ Mark 45 ∷ Mark 62 ∷ name ∷ Word word.For ∷ name ∷ Open Brace ∷ [])

-- impl < name : for < 'a > name > name where for < 'a > name : name {..}
abbrev pub for_in_bounds : Bool
for_in_bounds =
    of_a_trait (Word word.Impl ∷ Mark 60 ∷ name ∷ Mark 58 ∷ Word word.For ∷ Mark 60 ∷ Lifetime ∷ Mark 62 ∷ name ∷ Mark 62 ∷ name ∷ Word word.Where ∷ Word word.For ∷ Mark 60 ∷ Lifetime ∷ Mark 62 ∷ name ∷ Mark 58 ∷ name ∷ Open Brace ∷ [])

-- impl dyn name + for < 'a > name {..}
abbrev pub for_behind_plus : Bool
for_behind_plus = of_a_trait (Word word.Impl ∷ Word word.Dyn ∷ name ∷ Mark 43 ∷ Word word.For ∷ Mark 60 ∷ Lifetime ∷ Mark 62 ∷ name ∷ Open Brace ∷ [])

-- impl a for a ! {..} {..} a, and fn a (..) - > a ! {..} where a ! {..} : a {..} a
abbrev pub for_a_macro : ItemParts
for_a_macro = first (Word word.Impl ∷ name ∷ Word word.For ∷ name ∷ Mark 33 ∷ Open Brace ∷ Open Brace ∷ name ∷ [])

abbrev pub macros_in_header : ItemParts
macros_in_header =
    first
    (Word word.Fn ∷ name ∷ Open Parenthesis ∷ Mark 45 ∷ Mark 62 ∷ name ∷ Mark 33 ∷ Open Brace ∷ Word word.Where ∷ name ∷ Mark 33 ∷ Open Brace ∷ Mark 58 ∷ name ∷ Open Brace ∷ name ∷ [])

-- fn a (..) - > ! {..} {..}, and impl a for ! {..} {..}: the type that has no values
abbrev pub never_returns : ItemParts
never_returns = first (Word word.Fn ∷ name ∷ Open Parenthesis ∷ Mark 45 ∷ Mark 62 ∷ Mark 33 ∷ Open Brace ∷ Open Brace ∷ [])

abbrev pub for_never : ItemParts
for_never = first (Word word.Impl ∷ name ∷ Word word.For ∷ Mark 33 ∷ Open Brace ∷ Open Brace ∷ [])

-- struct a where #[..] a : a , #[..] a : a {..}
abbrev pub where_attributes : ItemParts
where_attributes =
    first
    (Word word.Struct ∷ name ∷ Word word.Where ∷ Mark 35 ∷ Open Bracket ∷ name ∷ Mark 58 ∷ name ∷ Mark 44 ∷ Mark 35 ∷ Open Bracket ∷ name ∷ Mark 58 ∷ name ∷ Open Brace ∷ name ∷ [])

-- const a : a = #[..] a + #[..] a ; a, and struct a where a : a #[..] fn a (..) ;
abbrev pub value_attributes : ItemParts
value_attributes =
    first
    (Word word.Const ∷ name ∷ Mark 58 ∷ name ∷ Mark 61 ∷ Mark 35 ∷ Open Bracket ∷ name ∷ Mark 43 ∷ Mark 35 ∷ Open Bracket ∷ name ∷ Mark 59 ∷ name ∷ [])

abbrev pub cut_where : ItemParts
cut_where =
    first (Word word.Struct ∷ name ∷ Word word.Where ∷ name ∷ Mark 58 ∷ name ∷ Mark 35 ∷ Open Bracket ∷ Word word.Fn ∷ name ∷ Open Parenthesis ∷ Mark 59 ∷ [])

-- type const a : a = a ; and final const async gen unsafe fn a (..) {..}
abbrev pub type_const : ItemParts
type_const = first (Word word.Type ∷ Word word.Const ∷ name ∷ Mark 58 ∷ name ∷ Mark 61 ∷ name ∷ Mark 59 ∷ [])

abbrev pub all_qualifiers : ItemParts
all_qualifiers =
    first (Word word.Final ∷ Word word.Const ∷ Word word.Async ∷ Word word.Gen ∷ Word word.Unsafe ∷ Word word.Fn ∷ name ∷ Open Parenthesis ∷ Open Brace ∷ [])

-- const auto trait a {..}, and const auto : a ;
abbrev pub const_auto_trait : ItemParts
const_auto_trait = first (Word word.Const ∷ Word word.Auto ∷ Word word.Trait ∷ name ∷ Open Brace ∷ [])

abbrev pub const_auto : ItemParts
const_auto = first (Word word.Const ∷ Word word.Auto ∷ Mark 58 ∷ name ∷ Mark 59 ∷ [])

-- how many trees are before the comma that ends a member; marks of these trees are joint
abbrev pub until_comma : List LexemeKind → ℕ
until_comma ks = before_comma (lexemes_at 0 ks) start nothing (trees_at 0 ks)

-- a = a :: < a , a > (..) , a, and a = < a as a < a , a >> :: a , a
abbrev pub arguments : ℕ
arguments =
    until_comma (name ∷ Mark 61 ∷ name ∷ Mark 58 ∷ Mark 58 ∷ Mark 60 ∷ name ∷ Mark 44 ∷ name ∷ Mark 62 ∷ Open Parenthesis ∷ Mark 44 ∷ name ∷ [])

abbrev pub qualified_path : ℕ
qualified_path =
    until_comma
    (name ∷ Mark 61 ∷ Mark 60 ∷ name ∷ Word word.As ∷ name ∷ Mark 60 ∷ name ∷ Mark 44 ∷ name ∷ Mark 62 ∷ Mark 62 ∷ Mark 58 ∷ Mark 58 ∷ name ∷ Mark 44 ∷ name ∷ [])

-- a = a as & a < a , a > - a < a , a
abbrev pub cast : ℕ
cast =
    until_comma
    (name ∷ Mark 61 ∷ name ∷ Word word.As ∷ Mark 38 ∷ name ∷ Mark 60 ∷ name ∷ Mark 44 ∷ name ∷ Mark 62 ∷ Mark 45 ∷ name ∷ Mark 60 ∷ name ∷ Mark 44 ∷ name ∷ [])

-- a = a < a , a = a > a, and a = a << a , a >> a
abbrev pub comparison : ℕ
comparison = until_comma (name ∷ Mark 61 ∷ name ∷ Mark 60 ∷ name ∷ Mark 44 ∷ name ∷ Mark 61 ∷ name ∷ Mark 62 ∷ name ∷ [])

abbrev pub shift : ℕ
shift = until_comma (name ∷ Mark 61 ∷ name ∷ Mark 60 ∷ Mark 60 ∷ name ∷ Mark 44 ∷ name ∷ Mark 62 ∷ Mark 62 ∷ name ∷ [])

-- a : a < a , a > = | a , a : a < a , a > | a , a
abbrev pub closure : ℕ
closure =
    until_comma
    (name ∷ Mark 58 ∷ name ∷ Mark 60 ∷ name ∷ Mark 44 ∷ name ∷ Mark 62 ∷ Mark 61 ∷ Mark 124 ∷ name ∷ Mark 44 ∷ name ∷ Mark 58 ∷ name ∷ Mark 60 ∷ name ∷ Mark 44 ∷ name ∷ Mark 62 ∷ Mark 124 ∷ name ∷ Mark 44 ∷ name ∷ [])

-- where the name of `pub unsafe a : a` stands
abbrev pub unsafe_field : ℕ
unsafe_field =
    (first_member RecordField (lexemes_at 0 (Word word.Pub ∷ Word word.Unsafe ∷ name ∷ Mark 58 ∷ name ∷ [])) (trees_at 0 (Word word.Pub ∷ Word word.Unsafe ∷ name ∷ Mark 58 ∷ name ∷ []))).name

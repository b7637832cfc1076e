-- How statements and items are read: The Rust Reference, "Statements", "Items".
use Rattle.std.specs.Prelude.{◌&&◌, ◌||◌, Bool, true, false, not, List, is_some, if◌then◌else◌}
use Rattle.item_tree.specs.declared.lexer.word.Word.{Word}
use Rattle.item_tree.specs.declared.lexer.word.Word.TheVariants as word
use Rattle.macro_rules.specs.Expressions.{is_else}
use Rattle.macro_rules.specs.Extents.{kind_at, tree_len, angles_len, block_len, visibility_len, is_mark, is_pair, is_segment, opens, opens_angles, opens_brace, closes, word_class}
use Rattle.macro_rules.specs.Goals.{takes_both, takes_then, takes, impossible}
use Rattle.macro_rules.specs.Types.{tree_at}
use Rattle.macro_rules.specs.declared.extents.WordClass.{WordClass}
use Rattle.macro_rules.specs.declared.extents.WordClass.TheVariants as class
use Rattle.macro_rules.specs.declared.goal.Goal.{Goal}
use Rattle.macro_rules.specs.declared.goal.Goal.TheVariants as goal
use Rattle.macro_rules.specs.declared.goal.Mode.TheVariants.{First, Statement}
use Rattle.macro_rules.specs.declared.goal.Move.{Move}
use Rattle.macro_rules.specs.declared.goal.Style.TheVariants.{Names}
use Rattle.macro_rules.specs.declared.token.FragmentKind.TheVariants as of
use Rattle.macro_rules.specs.declared.token.Token.{Token}
use Rattle.macro_rules.specs.declared.token.TokenKind.{TokenKind}
use Rattle.macro_rules.specs.declared.token.TokenKind.TheVariants as kind

-- `fn unsafe extern async gen auto trait impl mod type const static`
abbrev pub is_item_word : Word → Bool
is_item_word word.Fn = true
is_item_word word.Unsafe = true
is_item_word word.Extern = true
is_item_word word.Async = true
is_item_word word.Gen = true
is_item_word word.Auto = true
is_item_word word.Trait = true
is_item_word word.Impl = true
is_item_word word.Mod = true
is_item_word word.Type = true
is_item_word word.Const = true
is_item_word word.Static = true
is_item_word _ = false

-- a word that goes on what `const unsafe async gen auto default safe final` begin, if that is an item
abbrev pub goes_on_item : TokenKind → Bool
goes_on_item (kind.Word w) = is_item_word w
goes_on_item _ = false

abbrev pub is_name_class : WordClass → Bool
is_name_class class.Name = true
is_name_class _ = false

abbrev pub is_name : TokenKind → Bool
is_name (kind.Word w) = is_name_class (word_class w)
is_name _ = false

-- `macro_rules`, `!` and a name
abbrev pub defines_macro : List Token → Bool
defines_macro ts = is_mark 33 (kind_at ts 1) && is_name (kind_at ts 2)

-- behind `static` a closure may begin
abbrev pub begins_closure : TokenKind → Bool
begins_closure (kind.Word word.Move) = true
begins_closure k = is_mark 124 k || is_pair 124 124 k

-- the words that begin items, some only by what follows
abbrev pub begins_item : Word → List Token → Bool
begins_item word.Use ts = true
begins_item word.Struct ts = true
begins_item word.Enum ts = true
begins_item word.Fn ts = true
begins_item word.Mod ts = true
begins_item word.Trait ts = true
begins_item word.Impl ts = true
begins_item word.Type ts = true
begins_item word.Pub ts = true
begins_item word.Macro ts = true
begins_item word.Extern ts = true
begins_item word.Const ts = not (opens_brace (kind_at ts 1))
begins_item word.Static ts = not (begins_closure (kind_at ts 1))
begins_item word.Union ts = is_name (kind_at ts 1)
begins_item word.MacroRules ts = defines_macro ts
begins_item word.Unsafe ts = goes_on_item (kind_at ts 1)
begins_item word.Async ts = goes_on_item (kind_at ts 1)
begins_item word.Gen ts = goes_on_item (kind_at ts 1)
begins_item word.Auto ts = goes_on_item (kind_at ts 1)
begins_item word.Default ts = goes_on_item (kind_at ts 1)
begins_item word.Safe ts = goes_on_item (kind_at ts 1)
begins_item word.Final ts = goes_on_item (kind_at ts 1)
begins_item w ts = false

abbrev pub statement_word_move : Word → List Token → Move
statement_word_move word.Let ts = takes_both 1 (goal.Pattern true) goal.LocalType
statement_word_move w ts = if begins_item w ts then takes_then 0 goal.Item else takes_then 0 (goal.Operand Statement)

abbrev pub statement_mark_move : TokenKind → List Token → Move
statement_mark_move k ts =
    if is_mark 35 k then takes_then (tree_at 1 ts) goal.Statement
    else if is_mark 59 k then takes 1
    else takes_then 0 (goal.Operand Statement)

-- a statement without its semicolon: attributes, and `let`, an item or an expression; a semicolon; or a fragment
abbrev pub statement_by : TokenKind → List Token → Move
statement_by (kind.Word w) ts = statement_word_move w ts
statement_by (kind.FragmentOpen of.Stmt) ts = takes (tree_len 0 ts)
statement_by (kind.FragmentOpen of.Item) ts = takes (tree_len 0 ts)
statement_by (kind.FragmentOpen of.Vis) ts = takes_then 0 goal.Item
statement_by k ts = statement_mark_move k ts

abbrev pub statement_move : List Token → Move
statement_move ts = statement_by (kind_at ts 0) ts

-- `let P: T = e else { }`, behind the pattern
abbrev pub local_type_move : List Token → Move
local_type_move ts =
    if is_mark 58 (kind_at ts 0) then takes_both 1 (goal.Type true) goal.LocalValue else takes_then 0 goal.LocalValue

abbrev pub local_value_move : List Token → Move
local_value_move ts = if is_mark 61 (kind_at ts 0) then takes_both 1 (goal.Operand First) goal.LocalElse else takes 0

abbrev pub local_else_move : List Token → Move
local_else_move ts = if is_else (kind_at ts 0) then takes_then 1 goal.Block else takes 0

-- a macro call among items
abbrev pub item_call : Move
item_call = takes_both 0 (goal.Path Names) goal.Call

abbrev pub is_crate : TokenKind → Bool
is_crate (kind.Word word.Crate) = true
is_crate _ = false

-- a `const` may be a qualifier
abbrev pub const_goal : TokenKind → Goal
const_goal next = if goes_on_item next then goal.Item else goal.Semicolon

abbrev pub extern_goal : TokenKind → Goal
extern_goal next = if is_crate next then goal.Semicolon else goal.ItemBody

-- before the word of an item stand its visibility and its qualifiers; it has a semicolon or a body at its end
abbrev pub item_word_move : Word → List Token → Move
item_word_move word.Pub ts = takes_then (visibility_len ts) goal.Item
item_word_move word.Use ts = takes_then 1 goal.Semicolon
item_word_move word.Type ts = takes_then 1 goal.Semicolon
item_word_move word.Static ts = takes_then 1 goal.Semicolon
item_word_move word.Const ts = takes_then 1 (const_goal (kind_at ts 1))
item_word_move word.Extern ts = takes_then 1 (extern_goal (kind_at ts 1))
item_word_move word.MacroRules ts = if defines_macro ts then takes_then 3 goal.Group else item_call
item_word_move word.Struct ts = takes_then 1 goal.ItemBody
item_word_move word.Enum ts = takes_then 1 goal.ItemBody
item_word_move word.Fn ts = takes_then 1 goal.ItemBody
item_word_move word.Mod ts = takes_then 1 goal.ItemBody
item_word_move word.Trait ts = takes_then 1 goal.ItemBody
item_word_move word.Impl ts = takes_then 1 goal.ItemBody
item_word_move word.Macro ts = takes_then 1 goal.ItemBody
item_word_move word.Union ts = if is_name (kind_at ts 1) then takes_then 1 goal.ItemBody else item_call
item_word_move w ts = if begins_item w ts then takes_then 1 goal.Item else item_call

abbrev pub item_mark_move : TokenKind → List Token → Move
item_mark_move k ts = if is_mark 35 k then takes_then (tree_at 1 ts) goal.Item else item_call

-- an item with its attributes, or a fragment of one
abbrev pub item_by : TokenKind → List Token → Move
item_by (kind.Word w) ts = item_word_move w ts
item_by (kind.FragmentOpen of.Item) ts = takes (tree_len 0 ts)
item_by (kind.FragmentOpen of.Vis) ts = takes_then (tree_len 0 ts) goal.Item
item_by k ts = item_mark_move k ts

abbrev pub item_move : List Token → Move
item_move ts = item_by (kind_at ts 0) ts

abbrev pub call_move : List Token → Move
call_move ts = if is_mark 33 (kind_at ts 0) then takes_then 1 goal.Group else impossible

-- a semicolon stands behind a macro's group that is not of braces
abbrev pub group_move : List Token → Move
group_move ts =
    if opens_brace (kind_at ts 0) then takes (tree_len 0 ts)
    else if opens (kind_at ts 0) then takes_then (tree_len 0 ts) goal.Semicolon
    else impossible

abbrev pub semicolon_move : List Token → Move
semicolon_move ts =
    if is_mark 59 (kind_at ts 0) then takes 1
    else if closes (kind_at ts 0) then impossible
    else takes_then (tree_len 0 ts) goal.Semicolon

abbrev pub calls_macro : List Token → Bool
calls_macro ts = is_segment (kind_at ts 0) && is_mark 33 (kind_at ts 1) && opens (kind_at ts 2)

-- a body is braces outside of angle brackets, but not those of a macro's group
abbrev pub item_body_move : List Token → Move
item_body_move ts =
    if is_some (block_len ts) then takes (tree_len 0 ts)
    else if opens_angles (kind_at ts 0) then takes_then (angles_len 0 0 ts) goal.ItemBody
    else if calls_macro ts then takes_then (tree_at 2 ts) goal.ItemBody
    else if is_mark 59 (kind_at ts 0) then takes 1
    else if closes (kind_at ts 0) then impossible
    else takes_then (tree_len 0 ts) goal.ItemBody

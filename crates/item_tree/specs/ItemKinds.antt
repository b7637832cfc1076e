-- The kinds of items, and what tells them.
use Rattle.std.specs.Prelude.{◌+◌, ◌-◌, ◌||◌, ◌&&◌, ℕ, Bool, true, false, List, [], ◌∷◌, nat_lt, if◌then◌else◌}
use Rattle.item_tree.specs.Heads.{kind_at, is_mark, is_brace, is_const, is_string}
use Rattle.item_tree.specs.declared.items.item_kind.ItemKind.{ItemKind}
use Rattle.item_tree.specs.declared.items.item_kind.ItemKind.TheVariants as item
use Rattle.item_tree.specs.declared.items.item_kind.PathPart.{PathPart}
use Rattle.item_tree.specs.declared.items.item_kind.PathPart.TheVariants.{Start, Colon, Segment, Behind, Bang}
use Rattle.item_tree.specs.declared.lexer.lexeme.LexemeKind.{LexemeKind}
use Rattle.item_tree.specs.declared.lexer.lexeme.LexemeKind.TheVariants.{Word, Open, Mark}
use Rattle.item_tree.specs.declared.lexer.trees.Tree.{Tree}
use Rattle.item_tree.specs.declared.lexer.word.Word as words
use Rattle.item_tree.specs.declared.lexer.word.Word.TheVariants as word

-- the words that are no names: the keywords, and `_`
abbrev pub may_be_name : words.Word → Bool
may_be_name word.Mod = false
may_be_name word.Use = false
may_be_name word.Struct = false
may_be_name word.Enum = false
may_be_name word.Fn = false
may_be_name word.Const = false
may_be_name word.Static = false
may_be_name word.Type = false
may_be_name word.Trait = false
may_be_name word.Impl = false
may_be_name word.Extern = false
may_be_name word.Crate = false
may_be_name word.Macro = false
may_be_name word.Pub = false
may_be_name word.In = false
may_be_name word.SelfValue = false
may_be_name word.SelfType = false
may_be_name word.Super = false
may_be_name word.As = false
may_be_name word.Unsafe = false
may_be_name word.Async = false
may_be_name word.For = false
may_be_name word.Where = false
may_be_name word.Mut = false
may_be_name word.Ref = false
may_be_name word.Move = false
may_be_name word.Let = false
may_be_name word.If = false
may_be_name word.Else = false
may_be_name word.Match = false
may_be_name word.While = false
may_be_name word.Return = false
may_be_name word.Break = false
may_be_name word.Gen = false
may_be_name word.Final = false
may_be_name word.Underscore = false
may_be_name word.True = false
may_be_name word.False = false
may_be_name _ = true

abbrev pub is_name : LexemeKind → Bool
is_name (Word w) = may_be_name w
is_name _ = false

abbrev pub is_of_self : words.Word → Bool
is_of_self word.SelfValue = true
is_of_self word.SelfType = true
is_of_self word.Super = true
is_of_self word.Crate = true
is_of_self _ = false

-- a segment of a path is a name, `self`, `Self`, `super` or `crate`
abbrev pub is_segment : LexemeKind → Bool
is_segment (Word w) = is_of_self w || may_be_name w
is_segment _ = false

-- a path of a macro call is segments with two colons between, perhaps two before them, and a `!`; it goes on so
abbrev pub takes : PathPart → LexemeKind → Bool
takes Start k = is_segment k || is_mark 58 k
takes Colon k = is_mark 58 k
takes Segment k = is_segment k
takes Behind k = is_mark 58 k || is_mark 33 k
takes Bang k = false

abbrev pub part_behind : PathPart → LexemeKind → PathPart
part_behind Start k = if is_segment k then Behind else Colon
part_behind Colon k = Segment
part_behind Segment k = Behind
part_behind Behind k = if is_mark 33 k then Bang else Colon
part_behind Bang k = Bang

-- how many trees go on such a path
abbrev pub path_len : PathPart → List Tree → ℕ
path_len part [] = 0
path_len part (t ∷ ts) = if takes part t.kind then 1 + path_len (part_behind part t.kind) ts else 0

abbrev pub is_group : LexemeKind → Bool
is_group (Open d) = true
is_group _ = false

-- a call of `cfg_if` or `cfg_select` with braces is read, whatever its path
abbrev pub braced_kind : LexemeKind → ItemKind
braced_kind (Word word.CfgIf) = item.CfgIf
braced_kind (Word word.CfgSelect) = item.CfgSelect
braced_kind _ = item.MacroCall

abbrev pub group_kind : LexemeKind → LexemeKind → ItemKind
group_kind name group = if is_brace group then braced_kind name else item.MacroCall

-- a macro call is a path, its `!`, and a group
abbrev pub call_of : ℕ → List Tree → ItemKind
call_of len ts = if nat_lt 1 len && is_mark 33 (kind_at ts (len - 1)) && is_group (kind_at ts len) then group_kind (kind_at ts (len - 2)) (kind_at ts len) else item.Error

abbrev pub call_kind : List Tree → ItemKind
call_kind ts = call_of (path_len Start ts) ts

-- an item of the kind, if the name that it has to have is one
abbrev pub named : ItemKind → LexemeKind → ItemKind
named k name = if is_name name then k else item.Error

-- an `extern crate` has the name of a crate, or `self`
abbrev pub crate_kind : LexemeKind → ItemKind
crate_kind (Word word.SelfValue) = item.ExternCrate
crate_kind name = named item.ExternCrate name

-- `extern` begins an `extern crate`, or a block with or without the name of an interface
abbrev pub extern_of : LexemeKind → LexemeKind → ItemKind
extern_of (Word word.Crate) name = crate_kind name
extern_of next behind = if is_brace next || (is_string next && is_brace behind) then item.ExternBlock else item.Error

abbrev pub extern_kind : List Tree → ItemKind
extern_kind ts = extern_of (kind_at ts 1) (kind_at ts 2)

-- a constant may be named `_`
abbrev pub const_kind : LexemeKind → ItemKind
const_kind (Word word.Underscore) = item.Const
const_kind name = named item.Const name

-- `type` begins an alias, or with `const` behind it a constant
abbrev pub type_kind : List Tree → ItemKind
type_kind ts = if is_const (kind_at ts 1) then const_kind (kind_at ts 2) else named item.TypeAlias (kind_at ts 1)

abbrev pub is_type : LexemeKind → Bool
is_type (Word word.Type) = true
is_type _ = false

abbrev pub is_mutable : LexemeKind → Bool
is_mutable (Word word.Mut) = true
is_mutable _ = false

-- a static may have `mut` before its name
abbrev pub static_kind : List Tree → ItemKind
static_kind ts = if is_mutable (kind_at ts 1) then named item.Static (kind_at ts 2) else named item.Static (kind_at ts 1)

-- `union` begins a union before a name, and `macro_rules` a macro before `!` and a name; they and other names may
-- begin a macro call
abbrev pub weak_kind : words.Word → List Tree → ItemKind
weak_kind word.Union ts = if is_name (kind_at ts 1) then item.Union else call_kind ts
weak_kind word.MacroRules ts = if is_mark 33 (kind_at ts 1) && is_name (kind_at ts 2) then item.MacroRules else call_kind ts
weak_kind _ ts = call_kind ts

abbrev pub word_kind : words.Word → List Tree → ItemKind
word_kind word.Mod ts = named item.Mod (kind_at ts 1)
word_kind word.Use ts = item.Use
word_kind word.Struct ts = named item.Struct (kind_at ts 1)
word_kind word.Enum ts = named item.Enum (kind_at ts 1)
word_kind word.Fn ts = named item.Function (kind_at ts 1)
word_kind word.Const ts = const_kind (kind_at ts 1)
word_kind word.Static ts = static_kind ts
word_kind word.Type ts = type_kind ts
word_kind word.Trait ts = named item.Trait (kind_at ts 1)
word_kind word.Impl ts = item.Impl
word_kind word.Extern ts = extern_kind ts
word_kind word.Macro ts = named item.Macro2 (kind_at ts 1)
word_kind w ts = weak_kind w ts

abbrev pub kind_by : LexemeKind → List Tree → ItemKind
kind_by (Word w) ts = word_kind w ts
kind_by (Mark b) ts = call_kind ts
kind_by _ ts = item.Error

-- the kind of the item whose own word begins the trees
unfoldable pub item_kind : List Tree → ItemKind
item_kind ts = kind_by (kind_at ts 0) ts

-- Where items end.
use Rattle.std.specs.Prelude.{◌==◌, ◌+◌, ◌-◌, ◌||◌, ◌&&◌, ℕ, Bool, true, false, not, List, [], ◌∷◌, Some, None, drop, if◌then◌else◌}
use Rattle.item_tree.specs.Beginnings.{another_begins}
use Rattle.item_tree.specs.Heads.{kind_at, is_mark, is_brace, nothing}
use Rattle.item_tree.specs.ItemKinds.{path_len, is_group, is_segment}
use Rattle.item_tree.specs.ItemNames.{words_len}
use Rattle.item_tree.specs.declared.items.expected.Expected.{Expected}
use Rattle.item_tree.specs.declared.items.expected.Expected.TheVariants as expected
use Rattle.item_tree.specs.declared.items.item_end.ItemEnd.{ItemEnd}
use Rattle.item_tree.specs.declared.items.item_kind.ItemKind.{ItemKind}
use Rattle.item_tree.specs.declared.items.item_kind.ItemKind.TheVariants as item
use Rattle.item_tree.specs.declared.items.item_kind.PathPart.TheVariants.{Start}
use Rattle.item_tree.specs.declared.lexer.lexeme.LexemeKind.{LexemeKind}
use Rattle.item_tree.specs.declared.lexer.trees.Tree.{Tree}

abbrev pub is_semicolon : LexemeKind → Bool
is_semicolon k = is_mark 59 k

-- these end with a semicolon; the others may have a body in its place
abbrev pub may_have_body : ItemKind → Bool
may_have_body item.Use = false
may_have_body item.ExternCrate = false
may_have_body item.Const = false
may_have_body item.Static = false
may_have_body item.TypeAlias = false
may_have_body _ = true

-- the `!` of a macro stands behind the macro's path; that of the never type does not
abbrev pub calls_macro : LexemeKind → LexemeKind → Bool
calls_macro before k = is_mark 33 k && is_segment before

-- a body is braces outside of angle brackets, but not those right behind the `!` of a macro
abbrev pub ends_item : ItemKind → ℕ → Bool → LexemeKind → Bool
ends_item kind depth calls k = is_semicolon k || (is_brace k && (depth == 0) && not calls && may_have_body kind)

-- how many angle brackets are open behind a tree; that of an arrow closes none
abbrev pub depth_behind : LexemeKind → ℕ → LexemeKind → ℕ
depth_behind before depth k =
    if is_mark 60 k then depth + 1
    else if is_mark 62 k && not (is_mark 45 before) && not (depth == 0) then depth - 1
    else depth

-- in the values of constants and statics they may be comparisons, and are not counted
abbrev pub depth_in : ItemKind → LexemeKind → ℕ → LexemeKind → ℕ
depth_in item.Const before depth k = depth
depth_in item.Static before depth k = depth
depth_in _ before depth k = depth_behind before depth k

-- an end behind so many trees
abbrev pub complete : ℕ → ItemEnd
complete n = record { len = n; missing = None }

abbrev pub lacking : ℕ → Expected → ItemEnd
lacking n e = record { len = n; missing = Some e }

abbrev pub later : ℕ → ItemEnd → ItemEnd
later n e = record { len = n + e.len; missing = e.missing }

abbrev pub awaited : ItemKind → Expected
awaited kind = if may_have_body kind then expected.Body else expected.Semicolon

-- an item without its end
abbrev pub cut : ItemKind → ItemEnd
cut kind = lacking 0 (awaited kind)

-- an item goes on up to its semicolon or body, but not where another item begins, nor behind its level
abbrev pub up_to_end : ItemKind → LexemeKind → ℕ → Bool → List Tree → ItemEnd
up_to_end kind before depth calls [] = cut kind
up_to_end kind before depth calls (t ∷ ts) =
    if another_begins kind depth before (t ∷ ts) then cut kind
    else if ends_item kind depth calls t.kind then complete 1
    else later 1 (up_to_end kind t.kind (depth_in kind before depth t.kind) (calls_macro before t.kind) ts)

-- its own words stand before that
abbrev pub behind_words : ItemKind → List Tree → ItemEnd
behind_words kind ts = later (words_len kind ts) (up_to_end kind nothing 0 false (drop (words_len kind ts) ts))

-- the group of a macro, and a semicolon behind it where it is not of braces
abbrev pub group_end : List Tree → ItemEnd
group_end ts =
    if not (is_group (kind_at ts 0)) then lacking 0 expected.Group
    else if is_brace (kind_at ts 0) then complete 1
    else if is_semicolon (kind_at ts 1) then complete 2
    else lacking 1 expected.Semicolon

abbrev pub call_end : List Tree → ItemEnd
call_end ts = later (path_len Start ts) (group_end (drop (path_len Start ts) ts))

-- how many trees an item takes from its own word on, where its level goes on so far, and what it lacks: it goes on up
-- to its semicolon or body, or is a macro's path and group; an error takes what may be a path
unfoldable pub item_end : ItemKind → List Tree → ItemEnd
item_end item.MacroCall ts = call_end ts
item_end item.CfgIf ts = call_end ts
item_end item.CfgSelect ts = call_end ts
item_end item.MacroRules ts = later 3 (group_end (drop 3 ts))
item_end item.InnerAttribute ts = complete 3
item_end item.Error ts = complete (path_len Start ts)
item_end k ts = behind_words k ts

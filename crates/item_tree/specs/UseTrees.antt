-- The use trees of a `use` item.
use Rattle.std.specs.Prelude.{◌==◌, ◌+◌, ◌-◌, ◌++◌, ◌||◌, ◌&&◌, ℕ, zero, suc, Bool, true, false, not, List, [], ◌∷◌, Option, Some, None, length, drop, slice_get, nat_lt, if◌then◌else◌}
use Rattle.item_tree.specs.Heads.{is_mark}
use Rattle.item_tree.specs.ItemKinds.{takes, part_behind, is_name}
use Rattle.item_tree.specs.Visibilities.{lexeme_at}
use Rattle.item_tree.specs.declared.items.item_kind.PathPart.{PathPart}
use Rattle.item_tree.specs.declared.items.item_kind.PathPart.TheVariants.{Start}
use Rattle.item_tree.specs.declared.items.Range.{Range}
use Rattle.item_tree.specs.declared.lexer.lexeme.Delimiter.TheVariants.{Brace}
use Rattle.item_tree.specs.declared.lexer.lexeme.Lexeme.{Lexeme}
use Rattle.item_tree.specs.declared.lexer.lexeme.LexemeKind.{LexemeKind}
use Rattle.item_tree.specs.declared.lexer.lexeme.LexemeKind.TheVariants.{Word, Open, Close, Mark}
use Rattle.item_tree.specs.declared.items.use_tree.Step.{Step}
use Rattle.item_tree.specs.declared.items.use_tree.Tail.{Tail}
use Rattle.item_tree.specs.declared.items.use_tree.UseTree.{UseTree}
use Rattle.item_tree.specs.declared.items.use_tree.UseTreeKind.{UseTreeKind}
use Rattle.item_tree.specs.declared.items.use_tree.UseTreeKind.TheVariants as tree
use Rattle.item_tree.specs.declared.lexer.word.Word.TheVariants as word

-- a path is segments with two colons between, perhaps before and behind them
abbrev pub takes_segment : PathPart → LexemeKind → Bool
takes_segment part k = takes part k && not (is_mark 33 k)

-- how many lexemes go on a path
abbrev pub path_len : PathPart → List Lexeme → ℕ
path_len part [] = 0
path_len part (l ∷ ls) = if takes_segment part l.kind then 1 + path_len (part_behind part l.kind) ls else 0

-- behind `as` there is a name or `_`
abbrev pub is_alias : LexemeKind → Bool
is_alias (Word word.Underscore) = true
is_alias k = is_name k

-- a path alone has a lexeme, and ends with a segment
abbrev pub path_alone : LexemeKind → ℕ → Tail
path_alone last len =
    if len == 0 then record { kind = tree.Error; alias = false; len = 1 }
    else if is_mark 58 last then record { kind = tree.Error; alias = false; len = 0 }
    else record { kind = tree.Single; alias = false; len = 0 }

abbrev pub renamed : LexemeKind → Tail
renamed next = if is_alias next then record { kind = tree.Single; alias = true; len = 2 } else record { kind = tree.Error; alias = false; len = 1 }

abbrev pub starred : ℕ → LexemeKind → ℕ → Tail
starred mark last len = if mark == 42 then record { kind = tree.Glob; alias = false; len = 1 } else path_alone last len

-- behind a path there is `as` and a name, the brace of a list, a star, or nothing
abbrev pub tail_of : LexemeKind → ℕ → LexemeKind → LexemeKind → Tail
tail_of last len (Word word.As) next = renamed next
tail_of last len (Open Brace) next = record { kind = tree.Prefixed; alias = false; len = 1 }
tail_of last len (Mark b) next = starred b last len
tail_of last len _ next = path_alone last len

abbrev pub alias_place : Bool → ℕ → Option ℕ
alias_place renamed place = if renamed then Some place else None

abbrev pub with_tail : ℕ → Option ℕ → ℕ → Tail → UseTree
with_tail i parent len t =
    record {
      kind = t.kind;
      parent = parent;
      path = record { first = i; behind = i + len };
      alias = alias_place t.alias (i + len + 1);
      behind = i + len + t.len;
    }

abbrev pub with_path : ℕ → Option ℕ → ℕ → List Lexeme → UseTree
with_path i parent len ls = with_tail i parent len (tail_of (lexeme_at ls (len - 1)) len (lexeme_at ls len) (lexeme_at ls (len + 1)))

-- the use tree that begins the lexemes, which stand at a place, in the list of a tree
unfoldable pub first_use_tree : ℕ → Option ℕ → List Lexeme → UseTree
first_use_tree i parent ls = with_path i parent (path_len Start ls) ls

abbrev pub parent_of : Option UseTree → Option ℕ
parent_of None = None
parent_of (Some t) = t.parent

-- the tree that has the one of a number in its list
abbrev pub outer : List UseTree → Option ℕ → Option ℕ
outer trees None = None
outer trees (Some n) = parent_of (slice_get trees n)

-- the tree in whose list the next one stands, behind one of a kind and a number that stands in the list of another
abbrev pub inner_of : UseTreeKind → Option ℕ → ℕ → Option ℕ
inner_of tree.Prefixed parent n = Some n
inner_of _ parent n = parent

abbrev pub inner : UseTree → ℕ → Option ℕ
inner t n = inner_of t.kind t.parent n

abbrev pub closes_list : LexemeKind → Bool
closes_list (Close Brace) = true
closes_list _ = false

abbrev pub step_to : UseTree → ℕ → Step
step_to t n = record { tree = Some t; parent = inner t n; behind = t.behind }

-- what is read at a place, behind some trees: a comma or semicolon, the brace that ends a list, or a tree
unfoldable pub step_of : List UseTree → Option ℕ → ℕ → List Lexeme → Step
step_of trees parent i ls =
    if is_mark 44 (lexeme_at ls 0) || is_mark 59 (lexeme_at ls 0) then record { tree = None; parent = parent; behind = i + 1 }
    else if closes_list (lexeme_at ls 0) then record { tree = None; parent = outer trees parent; behind = i + 1 }
    else step_to (first_use_tree i parent ls) (length trees)

abbrev pub with_tree : List UseTree → Option UseTree → List UseTree
with_tree trees None = trees
with_tree trees (Some t) = trees ++ t ∷ []

-- some trees, and behind them those of the lexemes from a place up to an end, but for the first so many, which are read
abbrev pub use_trees_from : ℕ → List UseTree → Option ℕ → ℕ → ℕ → List Lexeme → List UseTree
use_trees_from end trees parent skipped i [] = trees
use_trees_from end trees parent zero i (l ∷ ls) =
    if nat_lt i end
    then use_trees_from end (with_tree trees (step_of trees parent i (l ∷ ls)).tree) (step_of trees parent i (l ∷ ls)).parent
    ((step_of trees parent i (l ∷ ls)).behind - (i + 1)) (i + 1) ls
    else trees
use_trees_from end trees parent (suc n) i (l ∷ ls) = use_trees_from end trees parent n (i + 1) ls

-- the use trees of the lexemes of a range, each behind the one in whose list it stands
abbrev pub use_trees_of : List Lexeme → Range → List UseTree
use_trees_of lexemes range = use_trees_from range.behind [] None 0 range.first (drop range.first lexemes)

-- The arms of `cfg_if!`, which has items under predicates, and the levels that items and arms stand in.
use Rattle.std.specs.Prelude.{◌==◌, ◌+◌, ◌&&◌, ℕ, Bool, true, false, not, List, None, length, drop, if◌then◌else◌}
use Rattle.item_tree.specs.CfgSelects.{select_arm}
use Rattle.item_tree.specs.Heads.{kind_at, is_mark, is_bracket, is_brace}
use Rattle.item_tree.specs.ItemParts.{bounded, first_item}
use Rattle.item_tree.specs.declared.cfg.cfg_if.LevelKind.{LevelKind}
use Rattle.item_tree.specs.declared.cfg.cfg_if.LevelKind.TheVariants.{Items, FirstArm, OtherArm, NoArm, SelectArm}
use Rattle.item_tree.specs.declared.items.item_kind.ItemKind.{ItemKind}
use Rattle.item_tree.specs.declared.items.item_kind.ItemKind.TheVariants as item
use Rattle.item_tree.specs.declared.items.item_parts.ItemParts.{ItemParts}
use Rattle.item_tree.specs.declared.lexer.lexeme.LexemeKind.{LexemeKind}
use Rattle.item_tree.specs.declared.lexer.lexeme.LexemeKind.TheVariants.{Word}
use Rattle.item_tree.specs.declared.lexer.trees.Tree.{Tree}
use Rattle.item_tree.specs.declared.lexer.word.Word.TheVariants as word

abbrev pub is_if : LexemeKind → Bool
is_if (Word word.If) = true
is_if _ = false

abbrev pub is_else : LexemeKind → Bool
is_else (Word word.Else) = true
is_else _ = false

-- `if`, an attribute, and braces
abbrev pub is_if_arm : List Tree → Bool
is_if_arm ts = is_if (kind_at ts 0) && is_mark 35 (kind_at ts 1) && is_bracket (kind_at ts 2) && is_brace (kind_at ts 3)

-- `else` and braces, or `else` and such an arm
abbrev pub else_len : List Tree → ℕ
else_len ts =
    if not (is_else (kind_at ts 0)) then 0
    else if is_brace (kind_at ts 1) then 1
    else if is_if_arm (drop 1 ts) then 4
    else 0

-- how many trees stand before the braces of the arm that begins the trees; none where no arm does. The first has `if`,
-- the others `else`, and behind one with `else` alone there is none
abbrev pub arm_head : LevelKind → List Tree → ℕ
arm_head FirstArm ts = if is_if_arm ts then 3 else 0
arm_head OtherArm ts = else_len ts
arm_head _ ts = 0

-- an arm; what is none is an error of one tree
abbrev pub arm_by : ℕ → List Tree → ItemParts
arm_by head ts =
    record {
      kind = if head == 0 then item.Error else item.CfgArm;
      attributes = head;
      visibility = head;
      word = head;
      name = None;
      len = bounded (head + 1) (length ts);
      missing = None;
    }

-- what begins the trees of a level of a kind
abbrev pub first_in : LevelKind → List Tree → ItemParts
first_in Items ts = first_item ts
first_in SelectArm ts = select_arm ts
first_in kind ts = arm_by (arm_head kind ts) ts

abbrev pub is_arm : ItemKind → Bool
is_arm item.CfgArm = true
is_arm _ = false

-- what kind of level goes on behind it
abbrev pub kind_behind : LevelKind → ItemParts → LevelKind
kind_behind Items p = Items
kind_behind FirstArm p = if is_arm p.kind then OtherArm else FirstArm
kind_behind OtherArm p = if p.word == 1 then NoArm else OtherArm
kind_behind NoArm p = NoArm
kind_behind SelectArm p = SelectArm

-- what stands in the body of an item: items, or the arms of a `cfg_if!` or a `cfg_select!`
abbrev pub level_kind : ItemKind → LevelKind
level_kind item.CfgIf = FirstArm
level_kind item.CfgSelect = SelectArm
level_kind _ = Items

-- The arms of `cfg_select!`, which has items behind predicates.
use Rattle.std.specs.Prelude.{◌==◌, ◌+◌, ◌-◌, ◌&&◌, ℕ, Bool, List, [], ◌∷◌, None, length, drop, nat_lt, if◌then◌else◌}
use Rattle.item_tree.specs.Heads.{kind_at, is_mark, is_brace, nothing}
use Rattle.item_tree.specs.ItemParts.{bounded}
use Rattle.item_tree.specs.declared.items.item_kind.ItemKind.{ItemKind}
use Rattle.item_tree.specs.declared.items.item_kind.ItemKind.TheVariants as item
use Rattle.item_tree.specs.declared.items.item_parts.ItemParts.{ItemParts}
use Rattle.item_tree.specs.declared.lexer.lexeme.LexemeKind.{LexemeKind}
use Rattle.item_tree.specs.declared.lexer.trees.Tree.{Tree}

-- the second mark of `=>`
abbrev pub ends_arrow : LexemeKind → LexemeKind → Bool
ends_arrow before k = is_mark 61 before && is_mark 62 k

-- how many trees stand before that of the first `=>`
abbrev pub before_arrow : LexemeKind → List Tree → ℕ
before_arrow before [] = 0
before_arrow before (t ∷ ts) = if ends_arrow before t.kind then 0 else 1 + before_arrow t.kind ts

-- a comma may stand before an arm
abbrev pub comma_len : List Tree → ℕ
comma_len ts = if is_mark 44 (kind_at ts 0) then 1 else 0

-- an arm is a predicate, `=>` and braces
abbrev pub is_arm_at : ℕ → List Tree → Bool
is_arm_at arrow ts = nat_lt 1 arrow && is_brace (kind_at ts (arrow + 1))

abbrev pub is_comma_alone : List Tree → Bool
is_comma_alone ts = length ts == 1 && is_mark 44 (kind_at ts 0)

abbrev pub parts_by : ItemKind → ℕ → ℕ → ℕ → List Tree → ItemParts
parts_by kind predicate word len ts =
    record {
      kind = kind;
      attributes = predicate;
      visibility = predicate;
      word = word;
      name = None;
      len = bounded len (length ts);
      missing = None;
    }

-- an arm whose predicate stands at one place, and the second mark of its arrow so many trees behind it
abbrev pub arm_at : ℕ → ℕ → List Tree → ItemParts
arm_at predicate arrow ts =
    if is_arm_at arrow (drop predicate ts) then parts_by item.CfgArm predicate (predicate + arrow - 1) (predicate + arrow + 2) ts
    else if is_comma_alone ts then parts_by item.CfgArm 1 1 1 ts
    else parts_by item.Error 0 0 1 ts

-- the arm that begins the trees; a comma behind the last is one that has no predicate and no items, and what is none is an
-- error of one tree
abbrev pub select_arm : List Tree → ItemParts
select_arm ts = arm_at (comma_len ts) (before_arrow nothing (drop (comma_len ts) ts)) ts

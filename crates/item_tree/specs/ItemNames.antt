-- Where the name of an item stands.
use Rattle.std.specs.Prelude.{◌+◌, ℕ, List, Option, Some, None, if◌then◌else◌}
use Rattle.item_tree.specs.Heads.{kind_at}
use Rattle.item_tree.specs.ItemKinds.{is_mutable, is_type}
use Rattle.item_tree.specs.declared.items.item_kind.ItemKind.{ItemKind}
use Rattle.item_tree.specs.declared.items.item_kind.ItemKind.TheVariants as item
use Rattle.item_tree.specs.declared.lexer.trees.Tree.{Tree}

-- the name stands behind the item's own word; behind `macro_rules` and `!`, `extern` and `crate`, `static` and `mut`,
-- `type` and `const`
abbrev pub name_place : ItemKind → List Tree → Option ℕ
name_place item.MacroRules ts = Some 2
name_place item.ExternCrate ts = Some 2
name_place item.Static ts = if is_mutable (kind_at ts 1) then Some 2 else Some 1
name_place item.Const ts = if is_type (kind_at ts 0) then Some 2 else Some 1
name_place item.Use ts = None
name_place item.ExternBlock ts = None
name_place item.Impl ts = None
name_place item.MacroCall ts = None
name_place item.CfgIf ts = None
name_place item.CfgSelect ts = None
name_place item.CfgArm ts = None
name_place item.InnerAttribute ts = None
name_place item.Error ts = None
name_place _ ts = Some 1

abbrev pub behind_name : Option ℕ → ℕ
behind_name None = 1
behind_name (Some i) = i + 1

-- how many words are the item's own: up to its name, or one
abbrev pub words_len : ItemKind → List Tree → ℕ
words_len k ts = behind_name (name_place k ts)

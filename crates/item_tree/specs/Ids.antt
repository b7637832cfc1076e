-- What items and use trees are known by, and which bytes they have.
use Rattle.std.specs.Prelude.{◌+◌, ◌-◌, ◌^◌, ℕ, List, Option, Some, None, min, nat_lt, slice_get, if◌then◌else◌}
use Rattle.dm_base.specs.declared.ids.FileAstId.{FileAstId}
use Rattle.dm_base.specs.declared.ids.UseTreeIdx.{UseTreeIdx}
use Rattle.item_tree.specs.Trees.{partner_at}
use Rattle.item_tree.specs.declared.ids.ModItemId.{ModItemId}
use Rattle.item_tree.specs.declared.ids.ModItemId.TheVariants as id
use Rattle.item_tree.specs.declared.ids.TextRange.{TextRange}
use Rattle.item_tree.specs.declared.items.item_kind.ItemKind.{ItemKind}
use Rattle.item_tree.specs.declared.items.item_kind.ItemKind.TheVariants as item
use Rattle.item_tree.specs.declared.items.Item.{Item}
use Rattle.item_tree.specs.declared.lexer.lexeme.Lexeme.{Lexeme}
use Rattle.item_tree.specs.declared.items.use_tree.UseTree.{UseTree}
use Rattle.item_tree.specs.declared.items.use_tree.UseTreeKind.{UseTreeKind}
use Rattle.item_tree.specs.declared.items.use_tree.UseTreeKind.TheVariants as tree

-- ids are numbers of 32 bits
abbrev pub file_ast_id : ℕ → Option FileAstId
file_ast_id n = if nat_lt n (2 ^ 32) then Some (record { 0 = n }) else None

abbrev pub use_tree_idx : ℕ → Option UseTreeIdx
use_tree_idx n = if nat_lt n (2 ^ 32) then Some (record { 0 = n }) else None

-- errors and inner attributes are no items of a module
abbrev pub mod_item_id : ItemKind → FileAstId → Option ModItemId
mod_item_id item.Const n = Some (id.Const n)
mod_item_id item.Enum n = Some (id.Enum n)
mod_item_id item.ExternBlock n = Some (id.ExternBlock n)
mod_item_id item.ExternCrate n = Some (id.ExternCrate n)
mod_item_id item.Function n = Some (id.Function n)
mod_item_id item.Impl n = Some (id.Impl n)
mod_item_id item.Macro2 n = Some (id.Macro2 n)
mod_item_id item.MacroCall n = Some (id.MacroCall n)
mod_item_id item.MacroRules n = Some (id.MacroRules n)
mod_item_id item.Mod n = Some (id.Mod n)
mod_item_id item.Static n = Some (id.Static n)
mod_item_id item.Struct n = Some (id.Struct n)
mod_item_id item.Trait n = Some (id.Trait n)
mod_item_id item.TypeAlias n = Some (id.TypeAlias n)
mod_item_id item.Union n = Some (id.Union n)
mod_item_id item.Use n = Some (id.Use n)
mod_item_id item.InnerAttribute n = None
mod_item_id item.CfgIf n = None
mod_item_id item.CfgSelect n = None
mod_item_id item.CfgArm n = None
mod_item_id item.Error n = None

abbrev pub ast_id : ModItemId → FileAstId
ast_id (id.Const n) = n
ast_id (id.Enum n) = n
ast_id (id.ExternBlock n) = n
ast_id (id.ExternCrate n) = n
ast_id (id.Function n) = n
ast_id (id.Impl n) = n
ast_id (id.Macro2 n) = n
ast_id (id.MacroCall n) = n
ast_id (id.MacroRules n) = n
ast_id (id.Mod n) = n
ast_id (id.Static n) = n
ast_id (id.Struct n) = n
ast_id (id.Trait n) = n
ast_id (id.TypeAlias n) = n
ast_id (id.Union n) = n
ast_id (id.Use n) = n

abbrev pub nowhere : TextRange
nowhere = record { start = 0; end = 0 }

-- a lexeme ends behind its last byte; past what a `usize` can tell, at the greatest
abbrev pub end_of : Lexeme → ℕ
end_of l = min (l.start + l.len) (2 ^ 64 - 1)

abbrev pub range_between : Option Lexeme → Option Lexeme → TextRange
range_between None last = nowhere
range_between (Some a) None = nowhere
range_between (Some a) (Some b) = record { start = a.start; end = end_of b }

-- from where one lexeme begins to where another one ends; nothing where one of them is missing
abbrev pub range_of : List Lexeme → ℕ → ℕ → TextRange
range_of ls first last = range_between (slice_get ls first) (slice_get ls last)

-- an item has its attributes, and all up to its end
abbrev pub item_range : List Lexeme → Item → TextRange
item_range ls x = if nat_lt x.first x.behind then range_of ls x.first (x.behind - 1) else nowhere

-- the last lexeme of a use tree; that of a list is the brace that closes it
abbrev pub last_of : List ℕ → UseTreeKind → ℕ → ℕ
last_of partners tree.Prefixed behind = partner_at partners (behind - 1)
last_of partners _ behind = behind - 1

abbrev pub use_tree_range : List Lexeme → List ℕ → UseTree → TextRange
use_tree_range ls partners t = range_of ls t.path.first (last_of partners t.kind t.behind)

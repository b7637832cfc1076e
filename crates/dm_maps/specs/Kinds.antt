-- Kinds of items and macros, and what an id says of them.
use Rattle.std.specs.Prelude.{ℕ, Bool, true, false}
use Rattle.dm_base.specs.declared.item_ids.ItemKind.{ItemKind}
use Rattle.dm_base.specs.declared.item_ids.ItemKind.TheVariants as item
use Rattle.dm_base.specs.declared.item_ids.MacroId.{MacroId}
use Rattle.dm_base.specs.declared.item_ids.MacroId.TheVariants.{Macro2Id, MacroRulesId, ProcMacroId}
use Rattle.dm_base.specs.declared.macros.MacroLoc.{MacroLoc}
use Rattle.dm_base.specs.declared.macros.MacroLoc.TheVariants as loc

abbrev pub same_kind : ItemKind → ItemKind → Bool
same_kind item.Function item.Function = true
same_kind item.Struct item.Struct = true
same_kind item.Union item.Union = true
same_kind item.Enum item.Enum = true
same_kind item.Const item.Const = true
same_kind item.Static item.Static = true
same_kind item.Trait item.Trait = true
same_kind item.TypeAlias item.TypeAlias = true
same_kind _ _ = false

abbrev pub macro_number : MacroId → ℕ
macro_number (Macro2Id n) = n.0
macro_number (MacroRulesId n) = n.0
macro_number (ProcMacroId n) = n.0

-- whether a macro is of the kind that its id says
abbrev pub is_of_kind : MacroId → MacroLoc → Bool
is_of_kind (Macro2Id n) (loc.Macro2 e) = true
is_of_kind (MacroRulesId n) (loc.MacroRules e) = true
is_of_kind (ProcMacroId n) (loc.Proc k) = true
is_of_kind _ _ = false

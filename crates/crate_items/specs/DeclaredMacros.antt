-- Which macros are exported, and which textual macros of modules and extern crates stay behind these.
use Rattle.std.specs.Prelude.{ℕ, Bool, true, false, List, []}
use Rattle.std.specs.List.{flat_map, list_any}
use Rattle.crate_items.specs.ItemAttributes.{item_attributes}
use Rattle.crate_items.specs.LexemeNames.{lexeme_names}
use Rattle.crate_items.specs.declared.items.declared_item.DeclaredItem.{DeclaredItem}
use Rattle.crate_items.specs.Files.{SourceFile, text_of}
use Rattle.crate_items.specs.ModuleVisibilities.{lexemes_known}
use Rattle.crate_items.specs.Modules.{Listing}
use Rattle.crate_items.specs.Sources.{source_at}
use Rattle.dm_base.specs.Names.{Name}
use Rattle.item_tree.specs.AttributeKinds.{lexemes_in}
use Rattle.item_tree.specs.declared.attributes.attribute_kind.AttributeKind.{AttributeKind}
use Rattle.item_tree.specs.declared.attributes.attribute_kind.AttributeKind.TheVariants as says
use Rattle.item_tree.specs.declared.lexer.lexeme.Lexeme.{Lexeme}

abbrev pub is_export : AttributeKind → Bool
is_export says.MacroExport = true
is_export _ = false

-- an active `macro_export` stands before an item
abbrev pub is_macro_exported : Listing → DeclaredItem → Bool
is_macro_exported l x = list_any is_export (item_attributes l x)

abbrev pub uses_all : AttributeKind → Bool
uses_all says.MacroUse = true
uses_all _ = false

-- the names that a `macro_use` has in parentheses
abbrev pub used_by : List ℕ → List Lexeme → AttributeKind → List Name
used_by text ls (says.MacroUseOf r) = flat_map (lexeme_names text) (lexemes_in ls r)
used_by text ls _ = []

-- which macros stay: all of them, or those of some names
pub record Used : Type 0 where
  pub is_whole : Bool
  pub names : List Name

-- all, where a `macro_use` has no parentheses, and those that stand in parentheses
abbrev pub used : List ℕ → List Lexeme → List AttributeKind → Used
used text ls kinds = record { is_whole = list_any uses_all kinds; names = flat_map (used_by text ls) kinds }

-- by the active attributes before an item
abbrev pub macro_use : Listing → List SourceFile → DeclaredItem → Used
macro_use l files x = used (text_of files x.file) (lexemes_known (source_at l.sources x.file)) (item_attributes l x)

-- The paths of macro calls among items.
use Rattle.std.specs.Prelude.{ℕ, List, Option, Some, None, length, nat_lt, slice_get, if◌then◌else◌}
use Rattle.crate_items.specs.UsePaths.{path_of}
use Rattle.crate_items.specs.declared.items.declared_item.DeclaredItem.{DeclaredItem}
use Rattle.crate_items.specs.Files.{SourceFile, text_of}
use Rattle.crate_items.specs.Modules.{Listing}
use Rattle.crate_items.specs.Sources.{Source, source_at}
use Rattle.dm_base.specs.Path.{Path}
use Rattle.item_tree.specs.AttributeKinds.{lexemes_in}
use Rattle.item_tree.specs.Imports.{segments_from}
use Rattle.item_tree.specs.Paths.{path_at}
use Rattle.item_tree.specs.declared.items.item_kind.ItemKind.{ItemKind}
use Rattle.item_tree.specs.declared.items.item_kind.ItemKind.TheVariants as item
use Rattle.item_tree.specs.declared.items.Item.{Item}
use Rattle.item_tree.specs.declared.lexer.lexeme.Lexeme.{Lexeme}

-- the path that begins at a place, as that of a `use` is read
abbrev pub call_path : List ℕ → List Lexeme → ℕ → Option Path
call_path text ls i = path_of text ls (segments_from i 0 (lexemes_in ls (path_at ls i)))

-- a macro call begins with its path
abbrev pub called_by : List ℕ → List Lexeme → ℕ → ItemKind → Option Path
called_by text ls word item.MacroCall = if nat_lt word (length ls) then call_path text ls word else None
called_by text ls word _ = None

abbrev pub called_in : List ℕ → Source → Option Item → Option Path
called_in text s None = None
called_in text s (Some x) = called_by text s.lexemes x.word x.kind

abbrev pub called_from : List ℕ → Option Source → ℕ → Option Path
called_from text None n = None
called_from text (Some s) n = called_in text s (slice_get s.items n)

-- the path of the macro that an item calls
abbrev pub macro_call_path : Listing → List SourceFile → DeclaredItem → Option Path
macro_call_path l files x = called_from (text_of files x.file) (source_at l.sources x.file) x.item

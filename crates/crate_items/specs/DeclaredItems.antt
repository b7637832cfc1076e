-- The items of a crate, with their names, visibilities and shapes.
use Rattle.std.specs.Prelude.{ℕ, List, [], ◌∷◌, Option, Some, None, length, slice_get, nat_lt, if◌then◌else◌}
use Rattle.crate_items.specs.LexemeNames.{kind_at, name_at}
use Rattle.crate_items.specs.Shapes.{item_shape}
use Rattle.crate_items.specs.declared.items.declared_item.DeclaredItem.{DeclaredItem}
use Rattle.crate_items.specs.declared.items.declared_item.LinkedCrate.{LinkedCrate}
use Rattle.crate_items.specs.declared.items.declared_item.LinkedCrate.TheVariants.{Itself, Named}
use Rattle.crate_items.specs.declared.items.module_items.ModuleItem.{ModuleItem}
use Rattle.crate_items.specs.Files.{SourceFile, text_of}
use Rattle.crate_items.specs.ModuleVisibilities.{visibility_in}
use Rattle.crate_items.specs.Modules.{Listing}
use Rattle.crate_items.specs.Sources.{Source, source_at}
use Rattle.dm_base.specs.Names.{Name}
use Rattle.dm_base.specs.declared.edition.Edition.{Edition}
use Rattle.item_tree.specs.Paths.{extern_crate_alias}
use Rattle.item_tree.specs.Visibilities.{raw_visibility}
use Rattle.item_tree.specs.declared.items.item_kind.ItemKind.{ItemKind}
use Rattle.item_tree.specs.declared.items.item_kind.ItemKind.TheVariants as item
use Rattle.item_tree.specs.declared.items.Item.{Item}
use Rattle.item_tree.specs.declared.lexer.lexeme.Lexeme.{Lexeme}
use Rattle.item_tree.specs.declared.lexer.lexeme.LexemeKind.{LexemeKind}
use Rattle.item_tree.specs.declared.lexer.lexeme.LexemeKind.TheVariants.{Word}
use Rattle.item_tree.specs.declared.items.visibility.RawVisibility.{RawVisibility}
use Rattle.item_tree.specs.declared.lexer.word.Word.TheVariants as word

abbrev pub or_own : Option ℕ → ℕ → ℕ
or_own None name = name
or_own (Some alias) name = alias

-- an extern crate is bound under the name behind `as`, if there is one; any other item under its own name
abbrev pub bound_place : List Lexeme → ItemKind → ℕ → ℕ
bound_place ls item.ExternCrate name = or_own (extern_crate_alias ls name) name
bound_place ls _ name = name

-- what it is bound under; nothing where its kind has no name
abbrev pub bound_name : List ℕ → List Lexeme → ItemKind → Option ℕ → Option Name
bound_name text ls k None = None
bound_name text ls k (Some name) = name_at text ls (bound_place ls k name)

-- the visibility that is written before an item
abbrev pub written : List Lexeme → Item → RawVisibility
written ls x = raw_visibility ls (record { first = x.visibility; behind = x.qualifiers })

-- an item of a row, by the text of its file, what was read of that, and its item in the tree
abbrev pub declared : Edition → Listing → List ℕ → Source → ModuleItem → Item → DeclaredItem
declared edition l text s r x =
    record {
      «module» = r.«module»;
      file = r.file;
      item = r.item;
      kind = x.kind;
      name = bound_name text s.lexemes x.kind x.name;
      visibility = visibility_in l edition text r.«module» (written s.lexemes x);
      shape = item_shape s x x.kind;
    }

abbrev pub of_item : Edition → Listing → List ℕ → ModuleItem → Source → Option Item → List DeclaredItem
of_item edition l text r s None = []
of_item edition l text r s (Some x) = declared edition l text s r x ∷ []

abbrev pub of_source : Edition → Listing → List ℕ → ModuleItem → Option Source → List DeclaredItem
of_source edition l text r None = []
of_source edition l text r (Some s) = of_item edition l text r s (slice_get s.items r.item)

-- the item of a row, if there are a module and an item of these numbers
abbrev pub declared_of : Edition → Listing → List SourceFile → ModuleItem → List DeclaredItem
declared_of edition l files r =
    if nat_lt r.«module» (length l.modules)
    then of_source edition l (text_of files r.file) r (source_at l.sources r.file)
    else []

abbrev pub named_crate : Option Name → Option LinkedCrate
named_crate None = None
named_crate (Some name) = Some (Named name)

-- `extern crate self` is of the crate itself, and any other of the one of the name
abbrev pub linked_as : LexemeKind → Option Name → Option LinkedCrate
linked_as (Word word.SelfValue) name = Some Itself
linked_as _ name = named_crate name

abbrev pub linked : List ℕ → List Lexeme → ℕ → Option LinkedCrate
linked text ls name = linked_as (kind_at ls name) (name_at text ls name)

abbrev pub linked_by : List ℕ → List Lexeme → ItemKind → Option ℕ → Option LinkedCrate
linked_by text ls item.ExternCrate (Some name) = linked text ls name
linked_by text ls _ name = None

abbrev pub linked_in : List ℕ → Source → Option Item → Option LinkedCrate
linked_in text s None = None
linked_in text s (Some x) = linked_by text s.lexemes x.kind x.name

abbrev pub linked_from : List ℕ → Option Source → ℕ → Option LinkedCrate
linked_from text None n = None
linked_from text (Some s) n = linked_in text s (slice_get s.items n)

-- the crate that an `extern crate` is of; none for any other item
abbrev pub linked_crate : Listing → List SourceFile → DeclaredItem → Option LinkedCrate
linked_crate l files x = linked_from (text_of files x.file) (source_at l.sources x.file) x.item

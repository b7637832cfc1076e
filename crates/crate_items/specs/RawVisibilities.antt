-- Visibilities of items, as they are written and a def map keeps them: nothing resolves their paths yet.
use Rattle.std.specs.Prelude.{◌&&◌, ℕ, List, [], Option, Some, None, length, nat_lt, slice_get, if◌then◌else◌}
use Rattle.crate_items.specs.DeclaredItems.{written}
use Rattle.crate_items.specs.UsePaths.{path_of}
use Rattle.crate_items.specs.Files.{SourceFile, text_of}
use Rattle.crate_items.specs.Modules.{Listing}
use Rattle.crate_items.specs.Sources.{Source, source_at}
use Rattle.dm_base.specs.Path.{Path}
use Rattle.dm_base.specs.declared.mod_path.PathKind.TheVariants as path
use Rattle.dm_base.specs.declared.visibility.RawVisibility.{RawVisibility}
use Rattle.dm_base.specs.declared.visibility.RawVisibility.TheVariants as raw
use Rattle.dm_base.specs.declared.visibility.VisibilityExplicitness.TheVariants.{Explicit, Implicit}
use Rattle.dm_base.specs.declared.ids.FileId.{FileId}
use Rattle.item_tree.specs.AttributeKinds.{lexemes_in}
use Rattle.item_tree.specs.Imports.{segments_from}
use Rattle.item_tree.specs.declared.items.Item.{Item}
use Rattle.item_tree.specs.declared.items.Range.{Range}
use Rattle.item_tree.specs.declared.lexer.lexeme.Lexeme.{Lexeme}
use Rattle.item_tree.specs.declared.items.visibility.RawVisibility.{RawVisibility as Written}
use Rattle.item_tree.specs.declared.items.visibility.RawVisibility.TheVariants as written

-- the path of some lexemes, as that of a `use` is read; none where there are none
abbrev pub path_in : List ℕ → List Lexeme → Range → Option Path
path_in text ls r =
    if nat_lt r.first r.behind && nat_lt r.first (length ls) then path_of text ls (segments_from r.first 0 (lexemes_in ls r)) else None

-- what leads along a path is explicit; what is no path is the module's own
abbrev pub along : Option Path → RawVisibility
along None = raw.PubSelf Explicit
along (Some p) = raw.Module p Explicit

-- the parent is one step outwards
abbrev pub parent_path : Path
parent_path = record { kind = path.Super 1; segments = [] }

-- A visibility that is written so. Where nothing is written, it is the module's own, and implicit.
abbrev pub raw_of : List ℕ → List Lexeme → Written → RawVisibility
raw_of text ls written.Inherited = raw.PubSelf Implicit
raw_of text ls written.Public = raw.Public
raw_of text ls written.PubCrate = raw.PubCrate
raw_of text ls written.PubSuper = along (Some parent_path)
raw_of text ls written.PubSelf = along None
raw_of text ls (written.In r) = along (path_in text ls r)
raw_of text ls written.Error = along None

abbrev pub item_raw : List ℕ → Source → Option Item → RawVisibility
item_raw text s None = raw.PubSelf Implicit
item_raw text s (Some x) = raw_of text s.lexemes (written s.lexemes x)

abbrev pub raw_from : List ℕ → Option Source → ℕ → RawVisibility
raw_from text None n = raw.PubSelf Implicit
raw_from text (Some s) n = item_raw text s (slice_get s.items n)

-- The visibility that is written before the item of a number in a file; where there is none, nothing is written.
abbrev pub item_visibility : Listing → List SourceFile → FileId → ℕ → RawVisibility
item_visibility l files f n = raw_from (text_of files f) (source_at l.sources f) n

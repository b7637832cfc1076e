-- What the attributes of a crate set: those that its root's file begins with.
use Rattle.std.specs.Prelude.{◌&&◌, ℕ, List, [], ◌∷◌, Option, Some, None, length, map, nat_lt, if◌then◌else◌}
use Rattle.std.specs.Char.{is_ascii_digit}
use Rattle.std.specs.List.{flat_map, list_all}
use Rattle.std.specs.Str.{is_utf8}
use Rattle.std.specs.Str.Parse.{digits_value}
use Rattle.crate_items.specs.ItemAttributes.{file_attributes}
use Rattle.crate_items.specs.LexemeNames.{lexeme_names}
use Rattle.crate_items.specs.declared.items.crate_attributes.CrateAttribute.{CrateAttribute}
use Rattle.crate_items.specs.declared.items.crate_attributes.CrateAttribute.TheVariants as sets
use Rattle.crate_items.specs.Files.{SourceFile, text_of}
use Rattle.crate_items.specs.ModuleVisibilities.{lexemes_known}
use Rattle.crate_items.specs.Modules.{Listing}
use Rattle.crate_items.specs.Sources.{source_at}
use Rattle.dm_base.specs.Names.{Name}
use Rattle.dm_base.specs.declared.ids.FileId.{FileId}
use Rattle.item_tree.specs.AttributeKinds.{lexemes_in}
use Rattle.item_tree.specs.Spans.{string_text}
use Rattle.item_tree.specs.declared.attributes.attribute_kind.AttributeKind.{AttributeKind}
use Rattle.item_tree.specs.declared.attributes.attribute_kind.AttributeKind.TheVariants as says
use Rattle.item_tree.specs.declared.lexer.lexeme.Lexeme.{Lexeme}

-- decimal digits, one at least, of a value below 2^32; zeros may lead
abbrev pub number : List ℕ → Option ℕ
number w =
    if list_all is_ascii_digit w && (nat_lt 0 (length w) && nat_lt (digits_value 10 w) 4294967296)
    then Some (digits_value 10 w)
    else None

-- bytes that are no UTF-8 write no number
abbrev pub number_in : List ℕ → Option ℕ
number_in bytes = if is_utf8 bytes then number bytes else None

abbrev pub limits : Option ℕ → List CrateAttribute
limits None = []
limits (Some n) = sets.RecursionLimit n ∷ []

abbrev pub feature : Name → CrateAttribute
feature name = sets.Feature name

-- what an attribute sets: `no_std`, `no_core` and the like themselves; `recursion_limit` the number in its string, and
-- `feature` each name in its parentheses
abbrev pub set_by : List ℕ → List Lexeme → AttributeKind → List CrateAttribute
set_by text ls says.NoStd = sets.NoStd ∷ []
set_by text ls says.NoCore = sets.NoCore ∷ []
set_by text ls says.RustcCoherenceIsCore = sets.CoherenceIsCore ∷ []
set_by text ls (says.RecursionLimit s) = limits (number_in (string_text text s))
set_by text ls (says.Feature r) = map feature (flat_map (lexeme_names text) (lexemes_in ls r))
set_by text ls _ = []

-- what the active attributes set that the root's file begins with, in order
abbrev pub crate_attributes : Listing → List SourceFile → FileId → List CrateAttribute
crate_attributes l files root =
    flat_map (set_by (text_of files root) (lexemes_known (source_at l.sources root)))
    (file_attributes (source_at l.sources root))

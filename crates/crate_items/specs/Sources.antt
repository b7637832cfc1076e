-- Files, as a crate reads them.
use Rattle.std.specs.Prelude.{◌≡◌, ◌++◌, ℕ, Bool, true, List, Option, Some, None, option_map, slice_get, take}
use Rattle.crate_items.specs.Files.{SourceFile, text_of}
use Rattle.crate_items.specs.ModItems.{IsInTextOrder, mods_of, path_in_range}
use Rattle.crate_items.specs.Standings.{View, may_stand, standings}
use Rattle.crate_items.specs.declared.modules.mod_items.ModItem.{ModItem}
use Rattle.crate_items.specs.declared.modules.standing.Standing.{Standing}
use Rattle.dm_base.specs.declared.ids.FileId.{FileId}
use Rattle.dm_base.specs.declared.edition.Edition.{Edition}
use Rattle.item_tree.specs.Attributes.{Table, active_conditions, attributes_of}
use Rattle.item_tree.specs.Delimiters.{partners_of}
use Rattle.item_tree.specs.ItemAttributes.{inner_range}
use Rattle.item_tree.specs.Items.{children_from, top_level_of}
use Rattle.item_tree.specs.Lexemes.{lexemes_of}
use Rattle.item_tree.specs.Strings.{string_value}
use Rattle.item_tree.specs.Tokens.{are_tokens}
use Rattle.item_tree.specs.declared.cfg.CfgAtom.{CfgAtom}
use Rattle.item_tree.specs.declared.items.Item.{Item}
use Rattle.item_tree.specs.declared.lexer.lexeme.Lexeme.{Lexeme}
use Rattle.item_tree.specs.declared.lexer.token.Token.{Token}

-- what is read of a file: its lexemes with their partners, its items, and how many are of the top level, its attributes
-- and their active conditions, how each item stands, the modules that it declares, whether the crate has it at all, and what
-- the first active `#![path]` stands for that it begins with
pub record Source : Type 0 where
  pub lexemes : List Lexeme
  pub partners : List ℕ
  pub items : List Item
  pub top_level : ℕ
  pub attributes : Table
  pub active : List Bool
  pub standings : List Standing
  pub mods : List ModItem
  pub is_enabled : Bool
  pub path : Option (List ℕ)

abbrev pub view_of : List CfgAtom → List ℕ → Source → View
view_of options text s = record {
  options = options;
  text = text;
  lexemes = s.lexemes;
  partners = s.partners;
  attributes = s.attributes;
  active = s.active;
  items = s.items;
  is_enabled = s.is_enabled;
}

-- the lexemes are those of the text, since only one list of tokens is that of a text
abbrev pub AreLexemesOf : Edition → List ℕ → List Lexeme → Type 0
AreLexemesOf edition text lexemes =
    (tokens : List Token) → are_tokens edition true tokens text ≡ true → lexemes ≡ lexemes_of edition 0 tokens text

-- what a crate of such an edition and options reads of a text. Inner attributes that the text begins with count for the
-- module whose file it is
pub record IsSourceOf (edition : Edition) (options : List CfgAtom) (text : List ℕ) (s : Source) : Type 0 where
  pub lexemes : AreLexemesOf edition text s.lexemes
  pub partners : s.partners ≡ partners_of s.lexemes
  pub items : s.items ≡ top_level_of s.lexemes s.partners ++ children_from s.lexemes s.partners 0 s.items
  pub top_level : take s.top_level s.items ≡ top_level_of s.lexemes s.partners
  pub attributes : s.attributes ≡ attributes_of text s.lexemes
  pub active : s.active ≡ active_conditions options text s.attributes
  pub standings : s.standings ≡ standings (view_of options text s)
  pub mods : IsInTextOrder (mods_of s.lexemes (view_of options text s) s.standings) s.mods
  pub enabled : s.is_enabled ≡ may_stand (view_of options text s) (inner_range 0 (take s.top_level s.items))
  pub path : s.path ≡ option_map (string_value text)
      (path_in_range (view_of options text s) (inner_range 0 (take s.top_level s.items)))

-- what a file of a number was read as, if it was read
abbrev pub known : Option (Option Source) → Option Source
known None = None
known (Some s) = s

abbrev pub source_at : List (Option Source) → FileId → Option Source
source_at table id = known (slice_get table id.0)

-- a table of such files, each what the crate reads of its text
abbrev pub AreSourcesOf : Edition → List CfgAtom → List SourceFile → List (Option Source) → Type 0
AreSourcesOf edition options files table =
    (id : FileId) (s : Source) → source_at table id ≡ Some s → IsSourceOf edition options (text_of files id) s

-- what was read stays as it is
abbrev pub Extends : List (Option Source) → List (Option Source) → Type 0
Extends before table = (id : FileId) (s : Source) → source_at before id ≡ Some s → source_at table id ≡ Some s

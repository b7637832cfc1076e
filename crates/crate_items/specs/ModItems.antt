-- The modules that a file declares, as a crate reads it.
use Rattle.std.specs.Prelude.{◌+◌, ◌&&◌, ℕ, Bool, true, false, List, [], ◌∷◌, ◌++◌, Option, Some, None, is_none, option_map, slice_get, if◌then◌else◌}
use Rattle.std.specs.List.Sorted.{IsPermutation, IsSortedByKey, IsStableByKey}
use Rattle.std.specs.Ordering.{nat_cmp}
use Rattle.crate_items.specs.Standings.{View, body_attributes}
use Rattle.crate_items.specs.declared.modules.mod_items.ModItem.{ModItem}
use Rattle.crate_items.specs.declared.modules.standing.Standing.{Standing}
use Rattle.item_tree.specs.Attributes.{is_active}
use Rattle.item_tree.specs.ItemAttributes.{attributes_in, outer_range}
use Rattle.item_tree.specs.Visibilities.{raw_visibility}
use Rattle.item_tree.specs.declared.attributes.attribute_kind.AttributeKind.{AttributeKind}
use Rattle.item_tree.specs.declared.attributes.attribute_kind.AttributeKind.TheVariants as says
use Rattle.item_tree.specs.declared.attributes.Attribute.{Attribute}
use Rattle.item_tree.specs.declared.items.item_kind.ItemKind.{ItemKind}
use Rattle.item_tree.specs.declared.items.item_kind.ItemKind.TheVariants as item
use Rattle.item_tree.specs.declared.items.Item.{Item}
use Rattle.item_tree.specs.declared.items.Range.{Range}
use Rattle.item_tree.specs.declared.lexer.lexeme.Lexeme.{Lexeme}
use Rattle.item_tree.specs.declared.lexer.span.Span.{Span}

abbrev pub span_of : Lexeme → Span
span_of l = record { start = l.start; len = l.len }

-- where the lexeme at a place stands in the text
abbrev pub span_at : List Lexeme → Option ℕ → Option Span
span_at lexemes None = None
span_at lexemes (Some place) = option_map span_of (slice_get lexemes place)

abbrev pub path_in_kind : AttributeKind → Option Span
path_in_kind (says.Path s) = Some s
path_in_kind _ = None

-- the string of a `#[path]` that is active
abbrev pub path_in : List Bool → Attribute → Option Span
path_in active a = if is_active active a.condition then path_in_kind a.kind else None

abbrev pub or_else : Option Span → Option Span → Option Span
or_else None b = b
or_else (Some a) b = Some a

-- that of the first of some attributes that has one, if there was none before
abbrev pub path_behind : List Bool → Option Span → List Attribute → Option Span
path_behind active found [] = found
path_behind active found (a ∷ rest) = path_behind active (or_else found (path_in active a)) rest

abbrev pub path_in_range : View → Range → Option Span
path_in_range v r = path_behind v.active None (attributes_in r v.attributes.attributes)

-- that of the item of a number: the first of those before it, or else of those that its body begins
-- with
abbrev pub path_of : View → ℕ → Item → Option Span
path_of v n x =
    or_else (path_in_range v (outer_range x)) (path_in_range v (body_attributes v.items n x.body))

abbrev pub is_mod : ItemKind → Bool
is_mod item.Mod = true
is_mod _ = false

-- a module that a file declares: its item's number, in which module it stands, where its name and its `#[path]` are
abbrev pub mod_item : List Lexeme → View → ℕ → Item → Option ℕ → Span → ModItem
mod_item lexemes v n x around name =
    record {
      item = n;
      home = around;
      name = name;
      visibility = raw_visibility lexemes (record { first = x.visibility; behind = x.qualifiers });
      path = path_of v n x;
      is_outline = is_none x.body;
    }

abbrev pub named : List Lexeme → View → ℕ → Item → Standing → Option Span → List ModItem
named lexemes v n x s None = []
named lexemes v n x s (Some name) = mod_item lexemes v n x s.home name ∷ []

-- an item that is a module and that the crate has
abbrev pub mod_if : List Lexeme → View → ℕ → Item → Option Standing → List ModItem
mod_if lexemes v n x None = []
mod_if lexemes v n x (Some s) =
    if is_mod x.kind && s.is_configured then named lexemes v n x s (span_at lexemes x.name) else []

-- the modules among the items from a number on
abbrev pub mods_from : List Lexeme → View → List Standing → ℕ → List Item → List ModItem
mods_from lexemes v ss n [] = []
mods_from lexemes v ss n (x ∷ xs) = mod_if lexemes v n x (slice_get ss n) ++ mods_from lexemes v ss (n + 1) xs

-- the modules that a file declares, in the order of its item tree: level by level
abbrev pub mods_of : List Lexeme → View → List Standing → List ModItem
mods_of lexemes v ss = mods_from lexemes v ss 0 v.items

-- where the name of a module stands
abbrev pub place : ModItem → ℕ
place x = x.name.start

-- the same in the order of their names in the text
pub record IsInTextOrder (in_tree mods : List ModItem) : Type 0 where
  pub each_once : IsPermutation in_tree mods
  pub in_order : IsSortedByKey place nat_cmp mods
  pub stable : IsStableByKey place nat_cmp in_tree mods

-- The attributes of items, and of a crate, that are active.
use Rattle.std.specs.Prelude.{ℕ, Bool, List, [], ◌∷◌, Option, Some, None, slice_get, if◌then◌else◌}
use Rattle.std.specs.List.{flat_map}
use Rattle.crate_items.specs.declared.items.declared_item.DeclaredItem.{DeclaredItem}
use Rattle.crate_items.specs.Modules.{Listing}
use Rattle.crate_items.specs.Sources.{Source, source_at}
use Rattle.crate_items.specs.Standings.{body_attributes}
use Rattle.item_tree.specs.Attributes.{is_active}
use Rattle.item_tree.specs.ItemAttributes.{attributes_in, inner_range, outer_range}
use Rattle.item_tree.specs.declared.attributes.attribute_kind.AttributeKind.{AttributeKind}
use Rattle.item_tree.specs.declared.attributes.Attribute.{Attribute}
use Rattle.item_tree.specs.declared.items.Item.{Item}
use Rattle.item_tree.specs.declared.items.Range.{Range}

-- what an attribute says, if it is active
abbrev pub active_kind : List Bool → Attribute → List AttributeKind
active_kind active a = if is_active active a.condition then a.kind ∷ [] else []

-- what the active attributes say that begin in a range
abbrev pub kinds_in : Source → Range → List AttributeKind
kinds_in s r = flat_map (active_kind s.active) (attributes_in r s.attributes.attributes)

abbrev pub kinds_of : Source → Option Item → List AttributeKind
kinds_of s None = []
kinds_of s (Some x) = kinds_in s (outer_range x)

abbrev pub kinds_from : Option Source → ℕ → List AttributeKind
kinds_from None n = []
kinds_from (Some s) n = kinds_of s (slice_get s.items n)

-- those that the body of the item of a number begins with
abbrev pub body_kinds : Source → ℕ → Option Item → List AttributeKind
body_kinds s n None = []
body_kinds s n (Some x) = kinds_in s (body_attributes s.items n x.body)

abbrev pub body_kinds_from : Option Source → ℕ → List AttributeKind
body_kinds_from None n = []
body_kinds_from (Some s) n = body_kinds s n (slice_get s.items n)

-- those that stand before an item
abbrev pub item_attributes : Listing → DeclaredItem → List AttributeKind
item_attributes l x = kinds_from (source_at l.sources x.file) x.item

-- those that a file begins with
abbrev pub file_attributes : Option Source → List AttributeKind
file_attributes None = []
file_attributes (Some s) = kinds_in s (inner_range 0 s.items)

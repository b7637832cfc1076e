-- The shapes of structs and variants, as def maps know them.
use Rattle.crate_items.specs.Sources.{Source}
use Rattle.dm_base.specs.declared.fields_shape.FieldsShape.{FieldsShape}
use Rattle.dm_base.specs.declared.fields_shape.FieldsShape.TheVariants as shape
use Rattle.item_tree.specs.Fields.{item_fields}
use Rattle.item_tree.specs.declared.items.item_kind.ItemKind.{ItemKind}
use Rattle.item_tree.specs.declared.items.item_kind.ItemKind.TheVariants as item
use Rattle.item_tree.specs.declared.items.Item.{Item}
use Rattle.item_tree.specs.declared.items.members.FieldsShape.{FieldsShape as Read}
use Rattle.item_tree.specs.declared.items.members.FieldsShape.TheVariants as read

abbrev pub as_shape : Read → FieldsShape
as_shape read.Record = shape.Record
as_shape read.Tuple = shape.Tuple
as_shape read.Unit = shape.Unit

-- the shape of a struct's fields; what is no struct has that of a record, which has no constructor
abbrev pub item_shape : Source → Item → ItemKind → FieldsShape
item_shape s x item.Struct = as_shape (item_fields s.lexemes s.partners x).shape
item_shape s x _ = shape.Record

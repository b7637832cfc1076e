-- Shapes of fields, and which of them have a constructor.
use Rattle.std.specs.Prelude.{Bool, true, false}
use Rattle.dm_base.specs.declared.fields_shape.FieldsShape.{FieldsShape}
use Rattle.dm_base.specs.declared.fields_shape.FieldsShape.TheVariants.{Record, Tuple, Unit}

-- a struct or variant has a constructor in the value namespace unless it is a record
abbrev pub has_constructor : FieldsShape → Bool
has_constructor Record = false
has_constructor Tuple = true
has_constructor Unit = true

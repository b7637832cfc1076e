use Rattle.std.proofs.Common.{refl}
use Rattle.std.proofs.Math.Utf8.{encode}
use Rattle.item_tree.proofs.attributes.attribute_rows.strings_with_escapes.Goals as goal

pub returns : goal.returns
unfolding encode
returns c = record {
  escapes = refl;
  character = refl;
  simple_escapes = refl;
  line_ends = refl;
  raw_escape = refl;
  great_byte = refl;
  surrogate = refl;
  no_escape = refl;
}

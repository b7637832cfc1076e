use Rattle.std.proofs.Common.{refl}
use Rattle.crate_items.proofs.files.line_rows.lines_and_columns.Goals as goal

pub returns : goal.returns
returns c = record {
  lines = refl;
  characters = refl;
  order_mark = refl;
  returns = refl;
  two_returns = refl;
  quoted_return = refl;
}

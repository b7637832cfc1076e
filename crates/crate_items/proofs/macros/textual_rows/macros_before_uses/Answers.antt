use Rattle.std.proofs.Common.{refl}
use Rattle.crate_items.proofs.macros.textual_rows.macros_before_uses.Goals as goal

pub returns : goal.returns
returns c = record {
  redefined = refl;
  late = refl;
  inner = refl;
  left = refl;
  nested = refl;
}

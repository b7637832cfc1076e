use Rattle.std.proofs.Common.{arith}
use Rattle.item_tree.proofs.RawLaws.{found, first}
use Rattle.item_tree.proofs.rows.raw_strings_end_at_the_first_closing.Goals as goal

pub returns : goal.returns
returns c = record {
  closing = λ n text rest h. found n 0 text rest (omega arith) h;
  first = λ n before behind rest h. first n 0 before behind rest h;
}

use Rattle.std.proofs.Common.{◌≡◌, drop}
use Rattle.item_tree.specs.AttributeReading.{run, start}
use Rattle.item_tree.proofs.attributes.attribute_reader.find_attributes.Given as goal

abbrev pub invariant-loop-at : goal.invariant-loop-at
invariant-loop-at l = run l.at l.reader (drop l.at l.lexemes) ≡ run 0 start l.lexemes

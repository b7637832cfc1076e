use Rattle.std.proofs.Common.{◌≡◌, [], drop}
use Rattle.item_tree.specs.Attributes.{active_from}
use Rattle.item_tree.proofs.attributes.Attributes.active_conditions.Given as goal

abbrev pub invariant-loop-condition : goal.invariant-loop-condition
invariant-loop-condition l = active_from l.options l.text l.self.nodes l.active.items (drop l.condition-index l.self.conditions) ≡ active_from l.options l.text l.self.nodes [] l.self.conditions

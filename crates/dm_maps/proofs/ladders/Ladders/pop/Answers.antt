use Rattle.std.proofs.Common.{subst}
use Rattle.std.specs.Option.{option_to_list}
use Rattle.dm_maps.specs.JumpPointers.{AreLadders}
use Rattle.dm_maps.proofs.TableLemmas.{AreLadders-front}
use Rattle.dm_maps.proofs.ladders.Ladders.pop.Goals as goal

pub invariant_of-self : goal.invariant_of-self
invariant_of-self c = AreLadders-front c.pop.new.self.items (option_to_list c.pop.result) (subst AreLadders c.pop.ensures.items c.self.invariant)

use Rattle.std.proofs.Common.{rules, subst}
use Rattle.dm_maps.specs.Held.{IsLeastFault}
use Rattle.dm_maps.specs.Known.{knows}
use Rattle.dm_maps.specs.First.{module_holder}
use Rattle.dm_maps.proofs.FirstLemmas.{first-one}
use Rattle.dm_maps.proofs.check.first_fault.module_fault.Goals as goal

pub returns-in-Some : goal.returns-in-Some
returns-in-Some c =
    let w = c.args.world.now in
    let least = c.note_module-least.result in
    first-one w (module_holder w c.args.i c.args.place) least c.fault_of.result
    (subst (λ hs. IsLeastFault (knows w) hs least) (search rules) c.note_module-least.ensures)
    c.fault_of.ensures

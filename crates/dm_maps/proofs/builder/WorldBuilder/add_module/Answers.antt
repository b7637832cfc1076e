use Rattle.std.proofs.Common.{ap, sym}
use Rattle.dm_def_map.specs.Maps.{Module}
use Rattle.dm_maps.proofs.AddedMaps.{added-child}
use Rattle.dm_maps.proofs.FaultLemmas.{child_fault-none}
use Rattle.dm_maps.proofs.builder.WorldBuilder.add_module.Goals as goal

pub next_module-m-requires : goal.next_module-m-requires
next_module-m-requires c = (child_fault-none c.args.self.now c.args.parent c.args.name (sym c.in-None.ensures)).1

pub push_module-requires-clause-known : goal.push_module-requires-clause-known
push_module-requires-clause-known c = (child_fault-none c.args.self.now c.args.parent c.args.name (sym c.in-None.ensures)).0

pub push_module-requires-clause-room : goal.push_module-requires-clause-room
push_module-requires-clause-room c = (child_fault-none c.args.self.now c.args.parent c.args.name (sym c.in-None.ensures)).1

pub returns-in_ok-push_module-in-None-clause-added : goal.returns-in_ok-push_module-in-None-clause-added
returns-in_ok-push_module-in-None-clause-added c =
    let known = (child_fault-none c.args.self.now c.args.parent c.args.name (sym c.in-None.ensures)).0 in
    added-child c.args.self.now c.push_module.new.self c.args.parent c.args.name c.fresh-added.result c.next_module-m.result known (ap (λ (d : Module). d.scope) c.fresh-added.ensures) c.in_ok-push_module-in-None.ensures.ok c.next_module-m.ensures

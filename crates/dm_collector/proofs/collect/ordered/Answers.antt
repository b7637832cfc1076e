use Rattle.crate_items.specs.CrateGraphs.{numbers}
use Rattle.dm_collector.proofs.collect.ordered.Goals as goal

pub returns-in-Ok-clause-order : goal.returns-in-Ok-clause-order
returns-in-Ok-clause-order c = (numbers c.in-Ok.order.items, c.in-Ok.ensures.order)

pub returns-in-Err-clause-fault : goal.returns-in-Err-clause-fault
returns-in-Err-clause-fault c = λ r. c.of_order.ensures r c.args.graph.now c.in-Err.ensures.fault

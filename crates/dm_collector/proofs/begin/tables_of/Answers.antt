use Rattle.dm_collector.proofs.begin.tables_of.Goals as goal

pub returns-in-Err-clause-fault : goal.returns-in-Err-clause-fault
returns-in-Err-clause-fault c = c.of_filling.ensures c.args.reading.now c.args.graph.now c.in-Err.ensures.fault

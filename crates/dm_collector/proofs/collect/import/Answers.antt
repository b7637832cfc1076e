use Rattle.std.proofs.Common.{refl}
use Rattle.dm_collector.proofs.collect.import.Goals as goal

pub returns-clause-imported : goal.returns-clause-imported
returns-clause-imported c = λ x is gs us. record {
  order = c.args.order.now;
  bound = record { world = c.bind_crates.new.world; flags = c.bind_crates.new.flags };
  names = c.in_ok-bind_crates.ensures x is gs us;
  traits = c.in_ok-is_settled.ensures.reached x is gs us;
  shown = c.settle.ensures.shown;
  flags = refl;
}

pub returns-clause-limited : goal.returns-clause-limited
returns-clause-limited c = λ late x is gs us. record {
  order = c.args.order.now;
  bound = record { world = c.bind_crates.new.world; flags = c.bind_crates.new.flags };
  names = c.in_ok-bind_crates.ensures x is gs us;
  traits = c.in_ok-is_settled.ensures.limited late x is gs us;
  shown = c.settle.ensures.shown;
  flags = refl;
}

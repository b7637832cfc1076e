use Rattle.std.proofs.Common.{subst, sym}
use Rattle.dm_collector.proofs.EndLemmas.{keep-declared}
use Rattle.dm_collector.proofs.FaultLemmas.{passed}
use Rattle.dm_collector.specs.CollectFaults.{IsFault}
use Rattle.dm_collector.specs.Collecting.{IsBegun, IsImported, Kept, given_in, maps_in, names_of, state_of}
use Rattle.dm_collector.specs.Steps.{Given}
use Rattle.dm_collector.proofs.collect.collect.Goals as goal

pub returns-in_err-order-clause-fault : goal.returns-in_err-order-clause-fault
returns-in_err-order-clause-fault c =
    passed c.from_residual.result c.in_err-order.field-0.0 (IsFault c.args.reading.now c.args.graph.now) c.from_residual.ensures.1 (c.in_err-order.ensures.fault c.args.reading.now)

pub returns-clause-collected : goal.returns-clause-collected
returns-clause-collected c =
    let m = c.finish.new.made in
    let b = c.in_ok-made.made in
    let begun = subst (λ (z : Kept × Given). IsBegun c.args.reading.now c.args.graph.now z.0 z.1 (state_of b)) (λ i. (sym c.finish.ensures.kept i, sym c.finish.ensures.given i)) c.in_ok-made.ensures.begun in
    let imported = subst (λ (x : Given). IsImported (maps_in m) 0 x (state_of b) (state_of m)) (sym c.finish.ensures.given) c.in_ok-finish.ensures.imported in
    record {
      start = state_of b;
      begun = begun;
      imported = imported;
      declared = keep-declared (maps_in m) 0 (given_in m) (state_of b) (state_of m) (names_of begun.crates.tables) begun.declared imported;
    }

pub returns-clause-limited : goal.returns-clause-limited
returns-clause-limited c = λ late.
    let m = c.finish.new.made in
    let b = c.in_ok-made.made in
    let begun = subst (λ (z : Kept × Given). IsBegun c.args.reading.now c.args.graph.now z.0 z.1 (state_of b)) (λ i. (sym c.finish.ensures.kept i, sym c.finish.ensures.given i)) c.in_ok-made.ensures.begun in
    let imported = subst (λ (x : Given). IsImported (maps_in m) 4294967295 x (state_of b) (state_of m)) (sym c.finish.ensures.given) (c.in_ok-finish.ensures.limited late) in
    record {
      start = state_of b;
      begun = begun;
      imported = imported;
      declared = keep-declared (maps_in m) 4294967295 (given_in m) (state_of b) (state_of m) (names_of begun.crates.tables) begun.declared imported;
    }

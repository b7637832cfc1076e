use Rattle.std.proofs.Common.{arith, refl, subst, sym}
use Rattle.std.proofs.lemmas.List.Elements.{Contains-get_or}
use Rattle.std.specs.List.{Contains}
use Rattle.dm_collector.proofs.ReachLemmas.{reached-here, reached-less}
use Rattle.dm_collector.proofs.bind_crates.use_macros_of.Goals as goal

pub returns-in-None-clause-reached : goal.returns-in-None-clause-reached
returns-in-None-clause-reached c = λ d x us. reached-here d x _ _ refl

pub returns-in_ok-_written-in-Some-clause-reached : goal.returns-in_ok-_written-in-Some-clause-reached
returns-in_ok-_written-in-Some-clause-reached c = λ d x us.
    let has = subst (Contains c.args.uses.now) (sym c.in-Some.ensures.lookup.1) (Contains-get_or c.args.uses.now c.args.krate.0 c.in-Some.used.now c.in-Some.ensures.lookup.3.0) in
    reached-less d x 0 _ _ _ (omega arith) (c.in_ok-_written-in-Some.ensures.reached d x (subst (λ l. Contains l c.in-Some.used.now) (sym us) has))

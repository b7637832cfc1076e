use Rattle.std.proofs.Common.{◌≡◌, ◌+◌, All, arith, true, subst, sym}
use Rattle.dm_collector.specs.Steps.{IsReached, count, maps_with}
use Rattle.dm_collector.specs.UnnamedTraits.{HasBrought}
use Rattle.dm_collector.proofs.ReachLemmas.{reached-less, reached-then}
use Rattle.dm_collector.proofs.settle.settle.Goals as goal

pub returns-then-not-branch-clause-reached : goal.returns-then-not-branch-clause-reached
returns-then-not-branch-clause-reached c = λ x is gs us.
    let d = maps_with c.args.given.now c.args.ambiguous.now in
    reached-less d x 0 (c.loop.counter + count c.in_ok-write.field-0) _ _ (omega arith)
    (reached-then d x c.loop.counter (count c.in_ok-write.field-0) _ _ _ (c.loop.invariant.reached x is gs us) (c.in_ok-write.ensures.reached x is gs us))

pub returns-then-not-branch-clause-brought : goal.returns-then-not-branch-clause-brought
returns-then-not-branch-clause-brought c = λ settled.
    subst (λ w. All (HasBrought (maps_with c.args.given.now c.args.ambiguous.now w)) c.args.given.now.globs.now)
    (sym (c.in_ok-write.ensures.same c.if-not-branch.true)) (c.in_ok-write.ensures.brought c.if-not-branch.true)

pub loop-preserved : goal.loop-preserved
loop-preserved c =
    let d = maps_with c.args.given.now c.args.ambiguous.now in
    let some : c.in_ok-write.field-0 ≡ true = c.if-not-branch.false in
    record {
      reached = λ x is gs us.
          reached-then d x c.loop.counter 1 _ _ _ (c.loop.invariant.reached x is gs us)
          (subst (λ b. IsReached d x (count b) c.loop.world c.write.new.world) some (c.in_ok-write.ensures.reached x is gs us));
      shown = λ g k ps h. c.in_ok-write.ensures.shown g k ps (c.loop.invariant.shown g k ps h);
    }

pub returns-clause-reached : goal.returns-clause-reached
returns-clause-reached c = λ x is gs us.
    let d = maps_with c.args.given.now c.args.ambiguous.now in
    reached-less d x 0 c.loop.counter _ _ (omega arith) (c.loop.invariant.reached x is gs us)

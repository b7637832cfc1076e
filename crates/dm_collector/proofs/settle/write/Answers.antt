use Rattle.std.proofs.Common.{All, subst}
use Rattle.dm_collector.specs.Steps.{IsReached, count, maps_with}
use Rattle.dm_collector.specs.UnnamedTraits.{HasBrought}
use Rattle.dm_collector.proofs.settle.write.Goals as goal

pub returns-then-branch-clause-reached : goal.returns-then-branch-clause-reached
returns-then-branch-clause-reached c = λ x is gs us.
    let d = maps_with c.args.given.now c.args.ambiguous.now in
    subst (λ b. IsReached d x (count b) c.args.world.now c.import_traits.new.world) c.if-branch.true
    (c.in_ok-import_traits.ensures.reached x is)

pub returns-then-branch-2-clause-reached : goal.returns-then-branch-2-clause-reached
returns-then-branch-2-clause-reached c = λ x is gs us.
    let d = maps_with c.args.given.now c.args.ambiguous.now in
    subst (λ w. IsReached d x 1 w c.bring_all.new.world) (c.in_ok-import_traits.ensures.same c.if-branch.false)
    (subst (λ b. IsReached d x (count b) c.import_traits.new.world c.bring_all.new.world) c.if-branch-2.true
    (c.in_ok-bring_all.ensures.reached x gs))

pub returns-clause-brought : goal.returns-clause-brought
returns-clause-brought c = λ none.
    subst (λ w. All (HasBrought (maps_with c.args.given.now c.args.ambiguous.now w)) c.args.given.now.globs.now)
    (c.in_ok-import_traits.ensures.same c.if-branch.false) (c.in_ok-bring_all.ensures.none c.if-branch-2.false)

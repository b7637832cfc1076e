use Rattle.std.proofs.Common.{◌≡◌, ◌∙◌, false, subst, sym, true}
use Rattle.std.proofs.lemmas.Bool.{false≢true}
use Rattle.dm_collector.specs.Steps.{maps_with}
use Rattle.dm_collector.proofs.support.find_support.Goals as goal
use Rattle.dm_collector.proofs.support.find_support.Goals.{then-found, else-found}

pub returns-clause-right : goal.returns-clause-right
returns-clause-right c =
    let d = maps_with c.args.given.now c.args.ambiguous.now c.args.world.now in
    let sup = c.in_ok-found.ensures.supported in
    let gro = c.in_ok-found.ensures.grounded in
    elim c.if-found.branch [
      | then-found w ↦ (
        (λ yes. record {
          known = c.are_imports_known.ensures.0 c.if-not-are_imports_known.false;
          supported = sup.0 w.if-found.true;
          grounded = gro.0 (sym w.result-is ∙ yes);
        }),
        (λ right. w.result-is ∙ gro.1 right.grounded),
      )
      | else-found w ↦ let off : c.in_ok-found.found.is_supported ≡ false = w.if-found.false in (
        (λ yes. absurd (false≢true (subst (λ b. b ≡ true) off (sym w.result-is ∙ yes)))),
        (λ right. absurd (false≢true (subst (λ b. b ≡ true) off (sup.1 right.supported)))),
      )
    ]

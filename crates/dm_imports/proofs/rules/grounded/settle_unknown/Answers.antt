use Rattle.std.proofs.Common.{◌≡◌, ◌∙◌, Some, subst, sym}
use Rattle.dm_imports.specs.Grounding.{Way, means, offers_in}
use Rattle.dm_imports.specs.Tables.{of_tables}
use Rattle.dm_imports.proofs.WayLemmas.{IsGiven, given-safe}
use Rattle.dm_imports.proofs.rules.grounded.settle_unknown.Goals as goal

pub returns-clause-safe : goal.returns-clause-safe
returns-clause-safe c =
    let d = of_tables c.args.maps.now in
    let given = subst (λ (w : Way). IsGiven c.args.known.now c.put.new.self w) c.way.view_is c.in_ok-put.ensures in
    let there = subst (λ (w : Way). means d w ≡ Some c.in-Some.meaning) c.way.view_is (sym c.at.ensures.value ∙ c.in-Some.is) in
    given-safe d c.args.known.now c.put.new.self (offers_in c.args.offered.now) c.args.way.now c.in-Some.meaning given c.requires.way there (sym c.derives.ensures ∙ c.if-not-derives.false)

use Rattle.std.proofs.Common.{◌≡◌, ◌∙◌, Some, subst, sym}
use Rattle.dm_imports.specs.Grounding.{Way, means}
use Rattle.dm_imports.specs.Tables.{of_tables}
use Rattle.dm_imports.proofs.ListedLemmas.{more-declared}
use Rattle.dm_imports.proofs.WayLemmas.{IsGiven}
use Rattle.dm_imports.proofs.rules.grounded.ways.add_way.Goals as goal

pub returns-in_ok-put-clause-more : goal.returns-in_ok-put-clause-more
returns-in_ok-put-clause-more c =
    let d = of_tables c.args.maps.now in
    let given = subst (λ (w : Way). IsGiven c.args.known.now c.put.new.self w) c.way.view_is c.in_ok-put.ensures in
    let there = subst (λ (w : Way). means d w ≡ Some c.in-Some.meaning) c.way.view_is (sym c.item_at.ensures.value ∙ c.in-Some.is) in
    more-declared d c.args.known.now c.put.new.self c.args.ways.now.items c.args.way c.in-Some.meaning given c.requires.way there (sym c.is_declared.ensures ∙ c.if-is_declared.true)

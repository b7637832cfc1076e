use Rattle.std.proofs.Common.{Bool, subst, sym}
use Rattle.std.specs.List.{All}
use Rattle.dm_imports.specs.Grounded.{known_offers}
use Rattle.dm_imports.specs.Grounding.{IsOpen, slots_of}
use Rattle.dm_imports.specs.Slots.{Slots}
use Rattle.dm_imports.specs.Tables.{of_tables}
use Rattle.dm_imports.proofs.PassLemmas.{safe-offers, stuck-by}
use Rattle.dm_imports.proofs.rules.grounded.pass.Goals as goal

pub settle_all-requires-clause-offers : goal.settle_all-requires-clause-offers
settle_all-requires-clause-offers c =
    safe-offers (of_tables c.args.maps.now) (slots_of c.args.known.now) c.in_ok-offered.offered c.in_ok-offered.ensures c.requires.safe

pub returns-clause-stuck : goal.returns-clause-stuck
returns-clause-stuck c = λ e.
    let d = of_tables c.args.maps.now in
    let left = c.in_ok-left.left.items in
    subst (λ (k : Slots Bool). All (IsOpen d (slots_of k) (known_offers d (slots_of k))) left) (sym (c.in_ok-left.ensures.same e))
    (stuck-by d (slots_of c.args.known.now) c.in_ok-offered.offered c.in_ok-offered.ensures left (c.in_ok-left.ensures.stuck e))

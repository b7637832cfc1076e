use Rattle.std.proofs.Common.{◌≡◌, [], drop}
use Rattle.std.specs.Prelude.{None}
use Rattle.crate_items.specs.Standings.{standings_from}
use Rattle.crate_items.proofs.modules.standing.standings.Given as goal

abbrev pub invariant-loop-number : goal.invariant-loop-number
invariant-loop-number l =
    standings_from l.view l.found.items l.chosen l.number (drop l.number l.view.items) ≡ standings_from l.view [] None 0 l.view.items

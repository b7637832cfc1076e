use Rattle.std.proofs.Common.{subst, sym}
use Rattle.std.proofs.lemmas.List.Elements.{All-nil}
use Rattle.std.specs.List.{All}
use Rattle.dm_imports.specs.Grounding.{IsWay}
use Rattle.dm_imports.specs.Tables.{of_tables}
use Rattle.dm_imports.proofs.FollowLemmas.{none-named, none-offered}
use Rattle.dm_imports.proofs.rules.grounded.open_ways.Goals as goal

pub settle_by_steps-requires-clause-sound : goal.settle_by_steps-requires-clause-sound
settle_by_steps-requires-clause-sound c =
    let d = of_tables c.args.maps.now in
    record {
      safe = c.in_ok-ways.ensures.safe;
      offers = none-offered d c.new.result c.new.ensures;
      named = none-named d c.new.result c.new.ensures;
      ways = subst (All (IsWay d)) (sym c.new-2.ensures.items) (All-nil (IsWay d));
    }

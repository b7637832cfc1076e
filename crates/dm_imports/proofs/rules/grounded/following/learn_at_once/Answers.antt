use Rattle.std.proofs.Common.{subst, sym}
use Rattle.std.proofs.lemmas.List.Elements.{All-push}
use Rattle.std.specs.List.{All}
use Rattle.dm_imports.specs.Grounding.{IsWay, Way}
use Rattle.dm_imports.specs.Tables.{of_tables}
use Rattle.dm_imports.proofs.FollowLemmas.{once-safe}
use Rattle.dm_imports.proofs.WayLemmas.{IsGiven, given-more}
use Rattle.dm_imports.proofs.rules.grounded.following.learn_at_once.Goals as goal

pub returns : goal.returns
returns c =
    let d = of_tables c.args.maps.now in
    let s = c.requires.sound in
    let old = c.args.followed.now.known in
    let new = c.put.new.self in
    let given = subst (λ (w : Way). IsGiven old new w) c.way.view_is c.in_ok-put.ensures in
    record {
      sound = record {
        safe = once-safe d old new c.args.reader c.args.way c.requires.reader c.requires.offered c.requires.way c.requires.needs given s.safe;
        offers = s.offers;
        named = s.named;
        ways = subst (All (IsWay d)) (sym c.in_ok-push.ensures.items) (All-push (IsWay d) c.args.followed.now.fresh.items c.args.way s.ways c.requires.way);
      };
      more = given-more old new c.args.way given;
    }

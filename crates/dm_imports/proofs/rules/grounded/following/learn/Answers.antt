use Rattle.std.proofs.Common.{subst, sym}
use Rattle.std.proofs.lemmas.List.Elements.{All-push}
use Rattle.std.specs.List.{All}
use Rattle.dm_imports.specs.Grounding.{IsWay}
use Rattle.dm_imports.specs.Tables.{of_tables}
use Rattle.dm_imports.proofs.FollowLemmas.{offered-safe}
use Rattle.dm_imports.proofs.rules.grounded.following.learn.Goals as goal

pub returns : goal.returns
returns c =
    let d = of_tables c.args.maps.now in
    let s = c.requires.sound in
    record {
      sound = record {
        safe = c.in_ok-settle_unknown.ensures.safe (offered-safe d c.args.followed.now.offered s.offers) s.safe;
        offers = s.offers;
        named = s.named;
        ways = subst (All (IsWay d)) (sym c.in_ok-push.ensures.items) (All-push (IsWay d) c.args.followed.now.fresh.items c.args.way s.ways c.requires.way);
      };
      more = c.in_ok-settle_unknown.ensures.more;
    }

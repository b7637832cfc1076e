use Rattle.dm_imports.specs.Grounding.{slots_of}
use Rattle.dm_imports.specs.Tables.{of_tables}
use Rattle.dm_imports.proofs.FollowLemmas.{more-covered, offered-safe}
use Rattle.dm_imports.proofs.rules.grounded.settle_by_steps.Goals as goal

pub settle_all-requires-clause-offers : goal.settle_all-requires-clause-offers
settle_all-requires-clause-offers c = offered-safe (of_tables c.args.maps.now) c.follow.new.followed.offered c.in_ok-follow.ensures.sound.offers

pub returns-clause-covered : goal.returns-clause-covered
returns-clause-covered c =
    let d = of_tables c.args.maps.now in
    c.in_ok-left.ensures.covered
    (more-covered d (slots_of c.args.followed.now.known) (slots_of c.follow.new.followed.known) c.args.ways.items c.in_ok-follow.ensures.more c.requires.covered)

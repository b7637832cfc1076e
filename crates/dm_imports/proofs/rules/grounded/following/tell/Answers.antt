use Rattle.std.proofs.Common.{◌∙◌, ap, not, refl, sym}
use Rattle.std.specs.Prelude.{is_some}
use Rattle.dm_imports.specs.Tables.{of_tables}
use Rattle.dm_imports.proofs.FollowLemmas.{glob-offers, glob-way, sound-offers}
use Rattle.dm_imports.proofs.rules.grounded.following.tell.Goals as goal

pub known_from-offer-requires : goal.known_from-offer-requires
known_from-offer-requires c = record { glob = glob-offers (of_tables c.args.maps.now) c.args.reader.glob.now c.requires.ready.known c.requires.reader.listed }

pub join_offer-requires-clause-glob : goal.join_offer-requires-clause-glob
join_offer-requires-clause-glob c = glob-offers (of_tables c.args.maps.now) c.args.reader.glob.now c.requires.ready.known c.requires.reader.listed

pub learn_at_once-requires-clause-way : goal.learn_at_once-requires-clause-way
learn_at_once-requires-clause-way c =
    glob-way (of_tables c.args.maps.now) c.args.reader.glob.now c.args.name.now c.args.namespace c.requires.ready.known.globs c.requires.reader.listed

pub learn_at_once-requires-clause-offered : goal.learn_at_once-requires-clause-offered
learn_at_once-requires-clause-offered c = record {
  home = refl;
  import = refl;
  offer = ap is_some (sym c.known_from-offer.ensures.value) ∙ c.is_none.ensures ∙ ap not c.if-is_none.false;
}

pub learn-requires-clause-way : goal.learn-requires-clause-way
learn-requires-clause-way c =
    glob-way (of_tables c.args.maps.now) c.args.reader.glob.now c.args.name.now c.args.namespace c.requires.ready.known.globs c.requires.reader.listed

pub learn-requires-clause-sound : goal.learn-requires-clause-sound
learn-requires-clause-sound c =
    sound-offers (of_tables c.args.maps.now) c.args.followed.now c.join_offer.new.offered c.args.reader.glob.now c.requires.sound c.requires.reader.listed c.in_ok-join_offer.ensures.offered c.in_ok-join_offer.ensures.named

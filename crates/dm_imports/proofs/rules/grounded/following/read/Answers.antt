use Rattle.std.proofs.Common.{◌∷◌, [], Option, Some, subst, sym}
use Rattle.std.proofs.lemmas.List.Elements.{All-push}
use Rattle.std.specs.List.{All}
use Rattle.dm_imports.specs.declared.container.Container.{Container}
use Rattle.dm_imports.specs.declared.rules.grounded.readers.Reader.{Reader}
use Rattle.dm_imports.specs.Following.{IsReader}
use Rattle.dm_imports.specs.Grounding.{HasSource, slots_of}
use Rattle.dm_imports.specs.Tables.{of_tables}
use Rattle.dm_imports.proofs.FollowLemmas.{follows-then, glob-offers}
use Rattle.dm_imports.proofs.SourceLemmas.{readers-more}
use Rattle.dm_imports.proofs.rules.grounded.following.read.Goals as goal

pub known_source-requires : goal.known_source-requires
known_source-requires c = glob-offers (of_tables c.args.maps.now) c.args.glob.now c.requires.ready.known c.requires.glob

pub tell_names-requires-clause-reader : goal.tell_names-requires-clause-reader
tell_names-requires-clause-reader c = record {
  listed = c.requires.glob;
  source = subst (λ (o : Option Container). HasSource (of_tables c.args.maps.now) (slots_of c.spread.new.followed.known) c.args.glob.now o) c.in-Some.is c.known_source.ensures;
}

pub returns-in-None-clause-readers : goal.returns-in-None-clause-readers
returns-in-None-clause-readers c =
    readers-more (of_tables c.args.maps.now) (slots_of c.args.followed.now.known) (slots_of c.spread.new.followed.known) c.in_ok-spread.ensures.more c.args.readers.now.all.items c.requires.readers

pub returns-in_ok-tell_names-in-Some-clause-follows : goal.returns-in_ok-tell_names-in-Some-clause-follows
returns-in_ok-tell_names-in-Some-clause-follows c =
    follows-then (of_tables c.args.maps.now) c.args.followed.now c.spread.new.followed c.tell_names.new.followed c.in_ok-spread.ensures c.in_ok-tell_names-in-Some.ensures

pub returns-in_ok-tell_names-in-Some-clause-readers : goal.returns-in_ok-tell_names-in-Some-clause-readers
returns-in_ok-tell_names-in-Some-clause-readers c =
    let d = of_tables c.args.maps.now in
    let k = slots_of c.spread.new.followed.known in
    let r : Reader = record { glob = c.args.glob; source = c.in-Some.source } in
    let own : IsReader d k r = record { listed = c.requires.glob; source = subst (λ (o : Option Container). HasSource d k c.args.glob.now o) c.in-Some.is c.known_source.ensures } in
    let before = readers-more d (slots_of c.args.followed.now.known) k c.in_ok-spread.ensures.more c.args.readers.now.all.items c.requires.readers in
    let with_it = subst (All (IsReader d k)) (sym c.in_ok-add-in-Some.ensures) (All-push (IsReader d k) c.args.readers.now.all.items r before own) in
    readers-more d k (slots_of c.tell_names.new.followed.known) c.in_ok-tell_names-in-Some.ensures.more c.add.new.self.all.items with_it

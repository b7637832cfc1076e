use Rattle.std.proofs.Common.{subst, sym}
use Rattle.std.proofs.lemmas.List.Elements.{All-contains, Contains-get_or}
use Rattle.std.specs.List.{Contains}
use Rattle.dm_imports.specs.Following.{IsReader}
use Rattle.dm_imports.specs.Grounding.{slots_of}
use Rattle.dm_imports.specs.Tables.{of_tables}
use Rattle.dm_imports.proofs.SourceLemmas.{reader-more}
use Rattle.dm_imports.proofs.rules.grounded.following.tell_all.Goals as goal

pub tell_slots-requires-clause-reader : goal.tell_slots-requires-clause-reader
tell_slots-requires-clause-reader c =
    let d = of_tables c.args.maps.now in
    let k = slots_of c.args.followed.now.known in
    let reader = c.in-Some.reader.now in
    let has = subst (Contains c.args.readers.now) (sym c.in-Some.ensures.lookup.1) (Contains-get_or c.args.readers.now _ reader c.in-Some.ensures.lookup.3.0) in
    reader-more d k (slots_of c.loop-place.followed.known) c.loop-place.invariant.more reader (All-contains (IsReader d k) c.args.readers.now reader c.requires.readers has)

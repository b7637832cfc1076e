use Rattle.dm_imports.specs.Grounding.{slots_of}
use Rattle.dm_imports.specs.Tables.{of_tables}
use Rattle.dm_imports.proofs.SourceLemmas.{reader-more}
use Rattle.dm_imports.proofs.rules.grounded.following.tell_names.Goals as goal

pub tell_name-requires-clause-reader : goal.tell_name-requires-clause-reader
tell_name-requires-clause-reader c =
    reader-more (of_tables c.args.maps.now) (slots_of c.args.followed.now.known) (slots_of c.loop-name.followed.known) c.loop-name.invariant.more c.args.reader c.requires.reader

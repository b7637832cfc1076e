use Rattle.dm_imports.specs.Grounding.{slots_of}
use Rattle.dm_imports.specs.Tables.{of_tables}
use Rattle.dm_imports.proofs.SourceLemmas.{reader-more}
use Rattle.dm_imports.proofs.rules.grounded.following.tell_name.Goals as goal

pub tell-requires-clause-reader : goal.tell-requires-clause-reader
tell-requires-clause-reader c =
    reader-more (of_tables c.args.maps.now) (slots_of c.args.followed.now.known) (slots_of c.loop-namespace.followed.known) c.loop-namespace.invariant.more c.args.reader c.requires.reader

use Rattle.dm_imports.specs.Grounding.{slots_of}
use Rattle.dm_imports.specs.Tables.{of_tables}
use Rattle.dm_imports.proofs.SourceLemmas.{readers-more}
use Rattle.dm_imports.proofs.rules.grounded.following.learn_import.Goals as goal

pub returns-clause-readers : goal.returns-clause-readers
returns-clause-readers c =
    readers-more (of_tables c.args.maps.now) (slots_of c.args.followed.now.known) (slots_of c.learn.new.followed.known) c.in_ok-is_settled.ensures.more c.args.readers.now.all.items c.requires.readers

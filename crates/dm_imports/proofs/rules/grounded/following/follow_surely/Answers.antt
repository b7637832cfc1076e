use Rattle.dm_imports.specs.Grounding.{slots_of}
use Rattle.dm_imports.specs.Tables.{of_tables}
use Rattle.dm_imports.proofs.SourceLemmas.{readers-more}
use Rattle.dm_imports.proofs.rules.grounded.following.follow_surely.Goals as goal

pub follow_step-requires-2-clause-readers : goal.follow_step-requires-2-clause-readers
follow_step-requires-2-clause-readers c =
    readers-more (of_tables c.args.maps.now) (slots_of c.follow_step.new.followed.known) (slots_of c.spread.new.followed.known) c.in_ok-spread.ensures.more
    c.follow_step.new.readers.all.items c.in_ok-is_done.ensures.readers

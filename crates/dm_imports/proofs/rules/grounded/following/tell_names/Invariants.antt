use Rattle.dm_imports.specs.Following.{Follows}
use Rattle.dm_imports.specs.Tables.{of_tables}
use Rattle.dm_imports.proofs.rules.grounded.following.tell_names.Given as goal

-- what was known is known, and no more than follows
abbrev pub invariant-loop-name : goal.invariant-loop-name
invariant-loop-name l = Follows (of_tables l.maps) l.fn.followed l.followed

use Rattle.std.specs.List.{All}
use Rattle.dm_imports.specs.Following.{Follows, IsReader}
use Rattle.dm_imports.specs.Grounding.{slots_of}
use Rattle.dm_imports.specs.Tables.{of_tables}
use Rattle.dm_imports.proofs.rules.grounded.following.follow.Given as goal

-- what was known is known, and no more than follows; so are the sources of the globs
abbrev pub invariant-loop-step : goal.invariant-loop-step
invariant-loop-step l = record {
  follows : Follows (of_tables l.maps) l.fn.followed l.followed;
  readers : All (IsReader (of_tables l.maps) (slots_of l.followed.known)) l.readers.all.items;
}

use Rattle.std.proofs.Common.{drop}
use Rattle.dm_scope.specs.Sorted.{seen}
use Rattle.dm_imports.specs.declared.joined.Joined.{Joined}
use Rattle.dm_imports.specs.Brought.{AreAllNamed, HasJoined}
use Rattle.dm_imports.specs.Grounding.{known_from, slots_of}
use Rattle.dm_imports.specs.Slots.{Slots}
use Rattle.dm_imports.specs.Tables.{of_tables}
use Rattle.dm_imports.proofs.rules.grounded.known_offers.add_names.Given as goal

-- with what is offered under the names that are left, a table has what is offered under all
abbrev pub invariant-loop-name : goal.invariant-loop-name
invariant-loop-name l = record {
  offers : (new : Slots Joined) →
      HasJoined l.maps.world l.glob.into (known_from (of_tables l.maps) (slots_of l.known) l.glob l.source) (seen (drop l.name-index l.names)) l.all new
      → HasJoined l.maps.world l.glob.into (known_from (of_tables l.maps) (slots_of l.known) l.glob l.source) (seen l.names) l.fn.all new;
  named : AreAllNamed l.maps.world l.all;
}

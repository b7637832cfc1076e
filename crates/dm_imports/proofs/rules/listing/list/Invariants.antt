use Rattle.std.proofs.Common.{◌≡◌, length}
use Rattle.dm_scope.specs.Sorted.{seen}
use Rattle.dm_imports.proofs.ListingLemmas.{ListsBefore}
use Rattle.dm_imports.proofs.rules.listing.list.Given as goal

-- the names of each module so far are listed
abbrev pub invariant-loop-number : goal.invariant-loop-number
invariant-loop-number l = record {
  number : length l.modules.items ≡ l.number;
  listed : ListsBefore (λ ns. seen ns.items) l.world l.modules.items l.number;
}

use Rattle.std.proofs.Common.{◌≡◌, ◌&&◌, ◌||◌, ℕ, false, length, nat_eq}
use Rattle.dm_retry.specs.Index.{has_place}
use Rattle.dm_base.specs.Names.{Name}
use Rattle.dm_maps.specs.Cut.{among}
use Rattle.dm_retry.proofs.worklist.index.add_names.Given as goal

abbrev pub invariant-names : goal.invariant-names
invariant-names l = record {
  whole : (n : Name) (j : ℕ) → (has_place l.index.entries n j || (among l.rest n && nat_eq j l.k)) ≡ (has_place l.initial.index.entries n j || (among l.names n && nat_eq j l.k));
  others : (n : Name) (j : ℕ) → (among l.names n && nat_eq j l.k) ≡ false → has_place l.index.entries n j ≡ has_place l.initial.index.entries n j;
  within : (n : Name) → among l.names n ≡ false → among l.rest n ≡ false;
}

abbrev pub decreases-names : goal.decreases-names
decreases-names l = length l.rest

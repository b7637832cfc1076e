-- What the tables of some crates have is known, where each table's is.
use Rattle.std.proofs.Common.{◌∷◌, [], zero, suc, List, arith}
use Rattle.std.specs.Prelude.{All}
use Rattle.std.specs.List.{flat_map}
use Rattle.std.proofs.lemmas.List.Elements.{All-append, All-nil}
use Rattle.crate_tables.specs.CrateFillings.{IsKnownTable}
use Rattle.crate_tables.specs.CrateTables.{IsNameOf, Table}
use Rattle.dm_maps.specs.World.{World}

pub names-known : (w : World) (ts : List Table) → All (IsKnownTable w) ts → All (IsNameOf w) (flat_map (λ (t : Table). t.names) ts)
names-known w [] h = All-nil (IsNameOf w)
names-known w (t ∷ ts) h =
    All-append (IsNameOf w) t.names (flat_map (λ (x : Table). x.names) ts) (h zero t (omega arith)).names
    (names-known w ts (λ k d l. h (suc k) d (omega (arith, l))))

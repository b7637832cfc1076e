-- What was known stays known, and so do tables.
use Rattle.std.proofs.Common.{◌∷◌, [], List, None}
use Rattle.std.proofs.lemmas.List.Elements.{All-weaker}
use Rattle.crate_tables.specs.CrateTables.{IsLeafOf, IsNameOf, IsTableOf, Table, leaf_holds}
use Rattle.crate_tables.specs.TextualMacros.{StaysKnown}
use Rattle.dm_maps.specs.Pushes.{push_holds}
use Rattle.dm_maps.specs.declared.check.held.HeldId.{HeldId}
use Rattle.dm_maps.specs.declared.check.held.HeldId.TheVariants as held
use Rattle.dm_base.specs.declared.ids.Crate.{Crate}
use Rattle.dm_maps.specs.Known.{KnowsAll}
use Rattle.dm_maps.specs.World.{World}

pub all-stay : (w v : World) → StaysKnown w v → (hs : List HeldId) → KnowsAll w hs → KnowsAll v hs
all-stay w v stays [] k = tt
all-stay w v stays (h ∷ hs) k = (stays h k.0, all-stay w v stays hs k.1)

pub table-stays : (w v : World) (k : Crate) (t : Table) → StaysKnown w v → IsTableOf w k t → IsTableOf v k t
table-stays w v k t stays is = record {
  krate = stays (held.Crate k) is.krate;
  ids = λ n m at. stays (held.Module m) (is.ids n m at);
  names = All-weaker (IsNameOf w) (IsNameOf v) (λ d k. record { known = all-stay w v stays (push_holds d.home d.items None) k.known }) t.names is.names;
  leaves = All-weaker (IsLeafOf w) (IsLeafOf v) (λ x known. all-stay w v stays (leaf_holds x) known) t.leaves is.leaves;
}

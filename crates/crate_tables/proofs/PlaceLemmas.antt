-- A table that lists one more place holds what it held.
use Rattle.crate_tables.specs.CrateTables.{IsTableOf, Table, with_def_at, with_use_at}
use Rattle.crate_tables.specs.declared.item_place.DefPlace.{DefPlace}
use Rattle.crate_tables.specs.declared.item_place.UsePlace.{UsePlace}
use Rattle.dm_base.specs.declared.ids.Crate.{Crate}
use Rattle.dm_maps.specs.World.{World}

pub table-use_at : (w : World) (k : Crate) (t : Table) (p : UsePlace) → IsTableOf w k t → IsTableOf w k (with_use_at t p)
table-use_at w k t p is = record { krate = is.krate; ids = is.ids; names = is.names; leaves = is.leaves }

pub table-def_at : (w : World) (k : Crate) (t : Table) (p : DefPlace) → IsTableOf w k t → IsTableOf w k (with_def_at t p)
table-def_at w k t p is = record { krate = is.krate; ids = is.ids; names = is.names; leaves = is.leaves }

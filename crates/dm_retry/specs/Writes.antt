-- Whether a named import binds an item in one namespace.
use Rattle.std.specs.Prelude.{◌||◌, Bool, true, false, Option, Some, None}
use Rattle.dm_base.specs.declared.per_ns.Item.{Item}
use Rattle.dm_base.specs.PerNs.{is_reresolved}

-- Over what is bound there, by a glob or not: over nothing, over what a glob brought, and over what the import bound
-- itself, where that was another definition. Where it brings no item, it binds none.
abbrev pub is_written : {D I : Type 0} → (D → D → Bool) → (I → I → Bool) → Option (Item D I) → Bool → Option (Item D I) → I → Bool
is_written same_def same_import bound by_glob None import = false
is_written same_def same_import None by_glob (Some new) import = true
is_written same_def same_import (Some old) by_glob (Some new) import = by_glob || is_reresolved same_import same_def old new.def (Some import)

-- An unresolved import, by its index.
use Rattle.std.specs.Prelude.{ℕ, List, Option, slice_get}
use Rattle.std.specs.Option.{option_map}
use Rattle.dm_base.specs.declared.imports.ImportId.{ImportId}
use Rattle.dm_retry.specs.Rounds.{Pending}

-- the import at an index
abbrev pub import_at : List Pending → ℕ → Option ImportId
import_at ps i = option_map (λ p. p.import) (slice_get ps i)

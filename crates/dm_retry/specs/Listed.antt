-- The imports of a list, for look-ups.
use Rattle.std.specs.Prelude.{◌≡◌, ◌||◌, List, Option, Some, None}
use Rattle.std.specs.List.{list_any}
use Rattle.dm_base.specs.declared.imports.ImportId.{ImportId}
use Rattle.dm_retry.specs.Known.{is_listed, same_leaf}
use Rattle.dm_retry.specs.Rounds.{Pending}

-- these are the imports of a list; or there are none yet
abbrev pub IsListing : Option (List ImportId) → List Pending → Type 0
IsListing None ps = Unit
IsListing (Some is) ps = (i : ImportId) → list_any (same_leaf i) is ≡ is_listed ps i

-- they have one import more; or there are none any more
abbrev pub WithImport : ImportId → Option (List ImportId) → Option (List ImportId) → Type 0
WithImport j old None = Unit
WithImport j None (Some is) = ⊥
WithImport j (Some was) (Some is) = (i : ImportId) → list_any (same_leaf i) is ≡ (list_any (same_leaf i) was || same_leaf i j)

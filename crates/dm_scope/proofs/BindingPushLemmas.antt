-- A push makes a namespace show one push more.
use Rattle.std.proofs.Common.{◌≡◌, List, [], ◌∷◌, ◌++◌, Option, Some}
use Rattle.dm_base.specs.Names.{Name}
use Rattle.dm_base.specs.declared.ids.ModuleId.{ModuleId}
use Rattle.dm_base.specs.declared.per_ns.Item.{Item}
use Rattle.dm_base.specs.declared.imports.ImportOrExternCrate.{ImportOrExternCrate}
use Rattle.dm_scope.specs.Shadowing.{Reading, import_of}
use Rattle.dm_scope.specs.Bindings.{Bound, is_effective_at, bound_after, flags_after}
use Rattle.dm_scope.specs.Flags.{Flags, has_flag}
use Rattle.dm_scope.specs.Pushes.{Push, is_effective, ShowsIn}
use Rattle.dm_scope.specs.FlagLaws.{has_flag-after}
use Rattle.dm_scope.proofs.PushLemmas.{IsReading}
use Rattle.dm_scope.proofs.ShowLemmas.{ShowsIn-push, ShowsIn-writes}

module _ {D I : Type 0} (r : Reading D I) (law : IsReading r) (s : Bound D I) (f : Flags) (m : ModuleId) where
  module _ (ps : List (Push D I)) (shows : ShowsIn r s (has_flag f m) ps) (name : Name) (item : Item D I) (by : Option ImportOrExternCrate) where
    pub ShowsIn-after : ShowsIn r (bound_after r s f m name (Some item) by) (has_flag (flags_after r s f m name (Some item) by) m) (ps ++ record { name = name; item = item; by = import_of r by } ∷ [])
    ShowsIn-after = ShowsIn-push r law s (has_flag f m) _ ps (record { name = name; item = item; by = import_of r by }) shows (has_flag-after r f (is_effective_at r s f m name (Some item) by) m name (import_of r by))

    pub is_effective-after : is_effective_at r s f m name (Some item) by ≡ is_effective r ps (record { name = name; item = item; by = import_of r by })
    is_effective-after = ShowsIn-writes r law s (has_flag f m) ps (record { name = name; item = item; by = import_of r by }) shows

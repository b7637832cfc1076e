-- Which modules of crates have no preludes.
use Rattle.std.specs.Prelude.{◌+◌, ◌++◌, ℕ, Bool, true, false, List, [], ◌∷◌, Option, Some, None, slice_get}
use Rattle.std.specs.List.{list_any}
use Rattle.crate_items.specs.BareModules.{bare_modules}
use Rattle.crate_items.specs.Modules.{Listing}
use Rattle.crate_tables.specs.CrateTables.{Table}
use Rattle.dm_base.specs.Tree.{same_module}
use Rattle.dm_base.specs.declared.ids.ModuleId.{ModuleId}

-- a module that was not left out, and has none
abbrev pub bare_id : Option ModuleId → Option Bool → List ModuleId
bare_id (Some m) (Some true) = m ∷ []
bare_id _ _ = []

-- of some modules of a crate, the first of which has this number, where its list says which have none
abbrev pub bare_ids : List Bool → ℕ → List (Option ModuleId) → List ModuleId
bare_ids bs n [] = []
bare_ids bs n (m ∷ ms) = bare_id m (slice_get bs n) ++ bare_ids bs (n + 1) ms

abbrev pub of_crate : List (Option ModuleId) → Option Listing → List ModuleId
of_crate ms None = []
of_crate ms (Some l) = bare_ids (bare_modules l) 0 ms

-- those of some crates, the first of which has this number
abbrev pub all_bare : List Listing → ℕ → List Table → List ModuleId
all_bare ls n [] = []
all_bare ls n (t ∷ ts) = of_crate t.ids (slice_get ls n) ++ all_bare ls (n + 1) ts

abbrev pub is_among : List ModuleId → ModuleId → Bool
is_among ms m = list_any (λ k. same_module k m) ms

-- Unnamed traits that globs had nothing to bring of.
use Rattle.std.proofs.Common.{◌≡◌, ◌<◌, ◌≤◌, ◌⊎◌, ℕ, Option, None, Some, ap, inl, inr, length, refl, subst}
use Rattle.std.proofs.lemmas.Bool.{cases_lt}
use Rattle.std.proofs.lemmas.Option.{slice_get_past}
use Rattle.std.specs.Option.{option_and_then, option_map}
use Rattle.dm_base.specs.declared.ids.ModuleId.{ModuleId}
use Rattle.dm_base.specs.PerNs.{keep}
use Rattle.dm_maps.specs.World.{scope_of}
use Rattle.dm_imports.specs.declared.glob_import.GlobImport.{GlobImport}
use Rattle.dm_imports.specs.Paths.{DefMaps}
use Rattle.dm_collector.specs.UnnamedTraits.{HasBrought, IsSourceCount, Unnamed, brought, is_new, is_seen_from, missing_glob, missing_of, module_meant}

-- a glob none of whose source's traits is missing, as many as there are, has brought all
pub all-brought : (d : DefMaps) (g : GlobImport) (n : ℕ) → IsSourceCount d g n → ((k : ℕ) → k < n → missing_glob d g k ≡ None) → HasBrought d g
all-brought d g n counts none k = by (cases_lt k n)
  where
    past : (m : Option ModuleId) → ((l : ModuleId) → m ≡ Some l → n ≡ length (scope_of d.world l).unnamed_traits) → n ≤ k → option_and_then (λ l. missing_of d.world g l k) m ≡ None
    past None c h = refl
    past (Some l) c h =
        ap (λ (o : Option Unnamed). keep (is_new d.world g.into) (option_map (brought g) (keep (is_seen_from d.world g.into) o)))
        (slice_get_past (scope_of d.world l).unnamed_traits k (subst (λ z. z ≤ k) (c l refl) h))

    by : (k < n) ⊎ (n ≤ k) → missing_glob d g k ≡ None
    by (inl below) = none k below
    by (inr h) = past (module_meant d g) counts h

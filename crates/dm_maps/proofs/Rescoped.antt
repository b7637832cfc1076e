-- What holds of a checked world where the scope of a module becomes another that fits.
use Rattle.std.proofs.Common.{◌≡◌, subst, sym}
use Rattle.dm_base.specs.declared.ids.ModuleId.{ModuleId}
use Rattle.dm_scope.specs.Scope.{Scope}
use Rattle.dm_maps.specs.declared.world.record_counts.RecordCounts.{RecordCounts}
use Rattle.dm_maps.specs.Added.{IsScoped}
use Rattle.dm_maps.specs.Built.{IsBuilt}
use Rattle.dm_maps.specs.RecordCounts.{IsCounted}
use Rattle.dm_maps.specs.Sound.{IsCheckedWorld}
use Rattle.dm_maps.specs.Stays.{StaysKnown}
use Rattle.dm_maps.specs.World.{World, with_scope}
use Rattle.dm_maps.proofs.ScopeChanges.{Fits, scope-goes_on, scope-stays}
use Rattle.dm_maps.proofs.SetLemmas.{scoped}

-- v is w with that scope: it is checked, its records are as many, it differs in that scope alone, and knows what w did
pub record IsRescoped (w v : World) (c : RecordCounts) (m : ModuleId) (s : Scope) : Type 0 where
  pub kept : IsCheckedWorld v × IsCounted v c
  pub scopes : IsScoped w v m s
  pub stays : StaysKnown w v

rescoped-of : (w v : World) (c : RecordCounts) (m : ModuleId) (s : Scope) → IsCheckedWorld w → IsCounted w c → IsBuilt v → v ≡ with_scope w m s → Fits w m s → IsRescoped w v c m s
rescoped-of w v c m s is counted built same fits = record {
  kept = scope-goes_on w v c m s is counted built same fits;
  scopes = subst (λ (u : World). IsScoped w u m s) (sym same) (scoped w is.lawful m fits.known s);
  stays = subst (StaysKnown w) (sym same) (scope-stays w m s);
}

-- the same, where the tables of w are x
pub rescoped : (x w v : World) (c : RecordCounts) (m : ModuleId) (s : Scope) → x ≡ w → IsCheckedWorld x × IsCounted x c → IsBuilt v → v ≡ with_scope w m s → (IsCheckedWorld w → Fits w m s) → IsRescoped w v c m s
rescoped x w v c m s view is built same fits =
    let checked = subst IsCheckedWorld view is.0 in
    rescoped-of w v c m s checked (subst (λ (u : World). IsCounted u c) view is.1) built same (fits checked)

-- A push of found items that answers false changes neither the scope nor the glob table: so a try that changes nothing
-- may be left out.
use Rattle.std.proofs.Common.{◌≡◌, false, Option, None, Some, refl}
use Rattle.std.proofs.lemmas.Bool.{cond-false, or_parts}
use Rattle.indexmap.specs.IndexSet.{insert_key}
use Rattle.dm_base.specs.Names.{Name, same_name}
use Rattle.dm_base.specs.declared.ids.ModuleId.{ModuleId}
use Rattle.dm_base.specs.declared.imports.ImportOrExternCrate.{ImportOrExternCrate}
use Rattle.dm_base.specs.PerNs.{is_empty}
use Rattle.dm_base.specs.declared.per_ns.Item.{Item}
use Rattle.dm_base.specs.declared.per_ns.PerNs.{PerNs}
use Rattle.dm_scope.specs.Shadowing.{Reading, import_of, flagged}
use Rattle.dm_scope.specs.Bindings.{Bound, bound, is_effective_at, bound_after, flags_after}
use Rattle.dm_scope.specs.Flags.{Flags, Globs}
use Rattle.dm_scope.specs.Push.{types_reading, values_reading, macros_reading, scope_after, globs_after, push_answer}
use Rattle.dm_scope.specs.Scope.{Scope}

module _ {D I : Type 0} (r : Reading D I) (s : Bound D I) (f : Flags) (m : ModuleId) (n : Name) where
  idle-bound : (x : Option (Item D I)) (by : Option ImportOrExternCrate) → is_effective_at r s f m n x by ≡ false → bound_after r s f m n x by ≡ s
  idle-bound None by h = refl
  idle-bound (Some item) by h = cond-false _ (bound r s n item (import_of r by)) s h

  idle-flags : (x : Option (Item D I)) (by : Option ImportOrExternCrate) → is_effective_at r s f m n x by ≡ false → flags_after r s f m n x by ≡ f
  idle-flags x by h = cond-false _ (flagged r f m n (import_of r by)) f h

module _ (s : Scope) (g : Globs) (m : ModuleId) (n : Name) (x : PerNs) (by : Option ImportOrExternCrate) where
  pub idle-scope : is_empty x ≡ false → push_answer s g m n x by ≡ false → scope_after s g m n x by ≡ s
  idle-scope some h =
      let first = or_parts _ _ h in
      let second = or_parts _ _ first.1 in
      let third = or_parts _ _ second.1 in
      λ i. record s {
        types = idle-bound types_reading s.types g.types m n x.types by first.0 i;
        values = idle-bound values_reading s.values g.values m n x.values by second.0 i;
        macros = idle-bound macros_reading s.macros g.macros m n x.macros by third.0 i;
        unresolved = cond-false (is_empty x) (insert_key same_name s.unresolved n) s.unresolved some i;
      }

  pub idle-globs : push_answer s g m n x by ≡ false → globs_after s g m n x by ≡ g
  idle-globs h =
      let first = or_parts _ _ h in
      let second = or_parts _ _ first.1 in
      let third = or_parts _ _ second.1 in
      λ i. record {
        types = idle-flags types_reading s.types g.types m n x.types by first.0 i;
        values = idle-flags values_reading s.values g.values m n x.values by second.0 i;
        macros = idle-flags macros_reading s.macros g.macros m n x.macros by third.0 i;
      }

-- The result and the effect of a push into a namespace. Where an allocation fails, nothing changes.
use Rattle.std.specs.Prelude.{◌≡◌, Bool, Option, Some, Result, IfOk, OnOk, OnErr}
use Rattle.dm_base.specs.Names.{Name}
use Rattle.dm_base.specs.declared.ids.ModuleId.{ModuleId}
use Rattle.dm_base.specs.declared.imports.ImportOrExternCrate.{ImportOrExternCrate}
use Rattle.dm_base.specs.declared.per_ns.Item.{Item}
use Rattle.dm_scope.specs.Shadowing.{Reading}
use Rattle.dm_scope.specs.Bindings.{Bound, bound_after, flags_after, is_effective_at}
use Rattle.dm_scope.specs.Flags.{Flags}

-- a push into a namespace with the bindings s and the flags f, which leaves t and h
pub record PushGivesIn {D I E : Type 0} (r : Reading D I) (s : Bound D I) (f : Flags) (t : Bound D I) (h : Flags) (m : ModuleId) (n : Name) (item : Item D I) (by : Option ImportOrExternCrate) (result : Result Bool E) : Type 0 where
  pub answer : IfOk result (λ effective. effective ≡ is_effective_at r s f m n (Some item) by)
  pub bindings : OnOk result (t ≡ bound_after r s f m n (Some item) by)
  pub flags : OnOk result (h ≡ flags_after r s f m n (Some item) by)
  pub err : OnErr result (t ≡ s)
  pub err_flags : OnErr result (h ≡ f)

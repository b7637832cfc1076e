-- The result and the effect of a push into a scope. Where an allocation fails, nothing changes.
use Rattle.std.specs.Prelude.{◌≡◌, Bool, Result, IfOk, OnOk, OnErr}
use Rattle.dm_base.specs.declared.ids.ModuleId.{ModuleId}
use Rattle.dm_scope.specs.Flags.{Globs}
use Rattle.dm_scope.specs.Push.{globs_after, push_answer, scope_after}
use Rattle.dm_scope.specs.Scope.{Scope}
use Rattle.dm_scope.specs.Shows.{ScopePush}

-- a push into a scope s with the glob table g, which leaves t and h
pub record PushGives {E : Type 0} (s : Scope) (g : Globs) (t : Scope) (h : Globs) (m : ModuleId) (p : ScopePush) (result : Result Bool E) : Type 0 where
  pub answer : IfOk result (λ answer. answer ≡ push_answer s g m p.name p.res p.by)
  pub scope : OnOk result (t ≡ scope_after s g m p.name p.res p.by)
  pub globs : OnOk result (h ≡ globs_after s g m p.name p.res p.by)
  pub err : OnErr result (t ≡ s)
  pub err_globs : OnErr result (h ≡ g)

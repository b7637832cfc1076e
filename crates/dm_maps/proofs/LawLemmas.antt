-- What one push into a world leaves of the others, from what it leaves in the scope of its module.
use Rattle.std.proofs.Common.{◌≡◌, ◌∙◌, Bool, true, false, IsSome, ap, refl, subst, sym}
use Rattle.dm_maps.proofs.Ids.{ModuleId}
use Rattle.dm_base.specs.IdLaws.{same_module-true}
use Rattle.dm_base.specs.Tree.{same_module}
use Rattle.dm_scope.specs.Flags.{Globs}
use Rattle.dm_scope.specs.PushLaw.{PushLaw, have_one_import, is_named, itself, would_write}
use Rattle.dm_scope.specs.Scope.{Scope}
use Rattle.dm_scope.specs.Shows.{ScopePush}
use Rattle.dm_maps.specs.World.{World, module_of, scope_if_known, scope_of, with_scope}
use Rattle.dm_maps.proofs.ScopeWrites.{with_scope-own}
use Rattle.dm_maps.proofs.SetLemmas.{scope-read}

-- a world in which a module gets its own scope is that world
scope-again : (w : World) (m : ModuleId) → IsSome (scope_if_known w m) → with_scope w m (scope_of w m) ≡ w
scope-again w m there = with_scope-own (scope_of w m) w m (scope-read (module_of w m) there)

module _ (w v : World) (g h : Globs) (m : ModuleId) (t : Scope) (p : ScopePush) where
  pub world_law : IsSome (scope_if_known w m) → v ≡ with_scope w m t → scope_of v m ≡ t → ((k : ModuleId) → same_module m k ≡ false → scope_of v k ≡ scope_of w k)
      → PushLaw itself (scope_of w m) g t h m p → PushLaw scope_of w g v h m p
  world_law there world own others law = record {
    idle = λ e. let both = law.idle e in (world ∙ ap (with_scope w m) both.0 ∙ scope-again w m there, both.1);
    again = ap (λ u. would_write u h m p) own ∙ law.again;
    rests = λ k q named differ e. at k q named differ e (same_module m k) refl;
    elsewhere = law.elsewhere;
  }
    where
      at : (k : ModuleId) (q : ScopePush) → is_named q.by ≡ true → have_one_import q p ≡ false → would_write (scope_of w k) g k q ≡ false → (b : Bool) → same_module m k ≡ b → would_write (scope_of v k) h k q ≡ false
      at k q named differ e true here =
          let same = same_module-true m k here in
          subst (λ j. would_write (scope_of v j) h j q ≡ false) same
          (ap (λ u. would_write u h m q) own ∙ law.rests m q named differ (subst (λ j. would_write (scope_of w j) g j q ≡ false) (sym same) e))
      at k q named differ e false elsewhere = ap (λ u. would_write u h k q) (others k elsewhere) ∙ law.elsewhere (scope_of w k) k q elsewhere ∙ e

-- Names are declared one after another.
use Rattle.std.proofs.Common.{◌≡◌, ◌++◌, ◌∷◌, [], List, Bool, true, false, cond, None, Some, sym, subst, refl}
use Rattle.std.specs.List.{cons_option}
use Rattle.std.proofs.lemmas.Bool.{eqb-true}
use Rattle.std.proofs.lemmas.List.{append-nil}
use Rattle.std.proofs.lemmas.List.Elements.{filter_map-append}
use Rattle.crate_tables.specs.DeclaredWorlds.{AreShown, declared_push, push_to, pushes_to}
use Rattle.crate_tables.specs.declared.declared_name.DeclaredName.{DeclaredName}
use Rattle.dm_base.specs.Tree.{same_module}
use Rattle.dm_base.specs.declared.ids.ModuleId.{ModuleId}
use Rattle.dm_maps.specs.PushRes.{StaysShown}
use Rattle.dm_maps.specs.World.{World, scope_of}
use Rattle.dm_scope.specs.Flags.{Globs}
use Rattle.dm_scope.specs.Shows.{ScopePush, Shows}

-- with a name more, each module shows it after the others where it goes there
module _ (w v : World) (g h : Globs) (ds : List DeclaredName) (d : DeclaredName)
    (shown : (ps : List ScopePush) → Shows (scope_of w d.home) g d.home ps → Shows (scope_of v d.home) h d.home (ps ++ declared_push d ∷ []))
    (elsewhere : (k : ModuleId) → same_module d.home k ≡ false → StaysShown w g v h k)
    (before : AreShown w g ds) where
  pub shown-more : AreShown v h (ds ++ d ∷ [])
  shown-more k = subst (Shows (scope_of v k) h k) (sym (filter_map-append (push_to k) ds (d ∷ []))) (by (same_module d.home k) refl)
    where
      by : (b : Bool) → same_module d.home k ≡ b → Shows (scope_of v k) h k (pushes_to k ds ++ cons_option (cond b (Some (declared_push d)) None) [])
      by true t =
          let e = eqb-true d.home.0 k.0 t in
          let one : d.home ≡ k = λ i. record { 0 = e i } in
          subst (λ (x : ModuleId). Shows (scope_of v x) h x (pushes_to x ds ++ declared_push d ∷ [])) one (shown (pushes_to d.home ds) (before d.home))
      by false t = subst (Shows (scope_of v k) h k) (sym (append-nil (pushes_to k ds))) (elsewhere k t (pushes_to k ds) (before k))

use Rattle.std.proofs.Common.{◌≡◌, ◌∙◌, ◌++◌, ◌∷◌, [], List, Bool, true, false, cond, None, Some, ap, sym, subst, refl}
use Rattle.std.specs.List.{cons_option, filter_map}
use Rattle.std.proofs.lemmas.Bool.{eqb-true}
use Rattle.std.proofs.lemmas.List.{append-nil}
use Rattle.std.proofs.lemmas.List.Elements.{filter_map-append}
use Rattle.dm_base.specs.Names.{Name}
use Rattle.dm_base.specs.declared.ids.ModuleId.{ModuleId}
use Rattle.dm_base.specs.declared.item_ids.ModuleDefId.{ModuleDefId}
use Rattle.dm_base.specs.PerNs.{type_alone}
use Rattle.dm_base.specs.Tree.{same_module}
use Rattle.dm_base.specs.declared.visibility.Visibility.TheVariants.{Public}
use Rattle.dm_scope.specs.Flags.{Globs}
use Rattle.dm_scope.specs.Shows.{ScopePush, Shows, push_of}
use Rattle.dm_maps.specs.PushRes.{StaysShown}
use Rattle.dm_maps.specs.World.{World, scope_of}
use Rattle.defmap_callers.specs.Building.{Declaration, push_to, pushes_to}
use Rattle.defmap_callers.proofs.building.declared.Goals as goal

pub loop-m-init : goal.loop-m-init
loop-m-init c = λ k. subst (λ s. Shows s c.new-globs.result k []) (sym (ap (λ (w : World). scope_of w k) c.in-Ok.ensures.same ∙ c.requires k)) (c.new-globs.ensures.shown k)

-- with a declaration more, each module shows it after the others where it goes there
module _ (w v : World) (g h : Globs) (ds : List Declaration) (m : ModuleId) (n : Name) (d : ModuleDefId)
    (shown : (ps : List ScopePush) → Shows (scope_of w m) g m ps → Shows (scope_of v m) h m (ps ++ push_of n (type_alone d Public None) None ∷ []))
    (elsewhere : (k : ModuleId) → same_module m k ≡ false → StaysShown w g v h k)
    (before : (k : ModuleId) → Shows (scope_of w k) g k (pushes_to k ds)) where
  more : (k : ModuleId) → Shows (scope_of v k) h k (pushes_to k (ds ++ (m, n, d) ∷ []))
  more k = subst (Shows (scope_of v k) h k) (sym (filter_map-append (push_to k) ds ((m, n, d) ∷ []))) (by (same_module m k) refl)
    where
      by : (b : Bool) → same_module m k ≡ b → Shows (scope_of v k) h k (pushes_to k ds ++ cons_option (cond b (Some (push_of n (type_alone d Public None) None)) None) [])
      by true t =
          let e = eqb-true m.0 k.0 t in
          let one : m ≡ k = λ i. record { 0 = e i } in
          subst (λ (x : ModuleId). Shows (scope_of v x) h x (pushes_to x ds ++ push_of n (type_alone d Public None) None ∷ [])) one (shown (pushes_to m ds) (before m))
      by false t = subst (Shows (scope_of v k) h k) (sym (append-nil (pushes_to k ds))) (elsewhere k t (pushes_to k ds) (before k))

pub loop-m-preserved : goal.loop-m-preserved
loop-m-preserved c =
    more c.loop-m.world c.declare_type.new.world c.loop-m.globs c.declare_type.new.globs c.loop-m.yielded c.in-Some.m c.in-Some.name c.in-Some.def
    c.in_ok-declare_type.ensures.shown c.in_ok-declare_type.ensures.elsewhere c.loop-m.invariant

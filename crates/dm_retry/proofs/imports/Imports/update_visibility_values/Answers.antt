use Rattle.std.proofs.Common.{List, [], None, refl, subst, sym}
use Rattle.dm_def_map.specs.declared.modules.modes.BuiltinShadowMode.TheVariants as shadow
use Rattle.hir_def_map.specs.declared.path_resolution.result.ResolveMode.TheVariants as mode
use Rattle.hir_def_map.specs.Paths.{asked}
use Rattle.dm_maps.specs.GoesOn.{seen_value}
use Rattle.dm_maps.specs.World.{scope_of}
use Rattle.dm_retry.specs.Rounds.{Pending, State}
use Rattle.dm_retry.specs.Settled.{IsSettled}
use Rattle.dm_retry.proofs.ChangeLemmas.{keeps-value, scoped-keeps, wake-settled}
use Rattle.dm_retry.proofs.imports.Imports.update_visibility_values.Goals as goal

pub invariant_of-self : goal.invariant_of-self
invariant_of-self c =
    let s : State = record { world = c.self.inside.world; globs = c.self.inside.globs; pending = c.self.inside.pendings } in
    let a = c.args in
    let n = a.name.now in
    let v = c.update_visibility_values.new.self in
    let e = c.update_visibility_values.ensures in
    let old = scope_of s.world a.m in
    let settled = wake-settled s v c.self.invariant
    (record {
      alike = λ w v L K m kind S. c.answers_alike.ensures w v L K (asked m mode.Import shadow.Module None kind) S;
      stays = e.stays_known;
      scopes = scoped-keeps s.world v a.m (seen_value old n a.vis) e.own (keeps-value old n a.vis);
      none = e.others_stay [] refl;
    }) n e.others_stay in
    subst (λ (l : List Pending). IsSettled (record { world = v; globs = s.globs; pending = l })) (sym c.wake.ensures) settled

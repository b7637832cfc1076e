use Rattle.std.proofs.Common.{◌∙◌, List, [], None, ap, map, refl, subst, sym}
use Rattle.dm_def_map.specs.declared.modules.modes.BuiltinShadowMode.TheVariants as shadow
use Rattle.hir_def_map.specs.declared.path_resolution.result.ResolveMode.TheVariants as mode
use Rattle.hir_def_map.specs.Paths.{asked}
use Rattle.dm_retry.specs.Rounds.{Pending, State, awoken}
use Rattle.dm_retry.specs.Settled.{IsSettled}
use Rattle.dm_retry.proofs.ChangeLemmas.{grown-keeps, wake-settled}
use Rattle.dm_retry.proofs.imports.Imports.add_macro_use.Goals as goal

pub invariant_of-self-2 : goal.invariant_of-self-2
invariant_of-self-2 c =
    let s : State = record { world = c.self.inside.world; globs = c.self.inside.globs; pending = c.self.inside.pendings } in
    let v = c.add_macro_use.new.self in
    let e = c.add_macro_use.ensures in
    let settled = wake-settled s v c.self.invariant
    (record {
      alike = λ w v L K m kind S. c.answers_alike.ensures w v L K (asked m mode.Import shadow.Module None kind) S;
      stays = e.stays_known;
      scopes = grown-keeps s.world v e.grown;
      none = e.others_stay [] refl;
    }) c.args.name e.others_stay in
    subst (λ (l : List Pending). IsSettled (record { world = v; globs = s.globs; pending = l })) (sym (c.wake.ensures ∙ ap (λ n. map (awoken n) s.pending) c.in_ok-bound.ensures)) settled

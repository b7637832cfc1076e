use Rattle.std.proofs.Common.{[], None}
use Rattle.dm_def_map.specs.declared.modules.modes.BuiltinShadowMode.TheVariants as shadow
use Rattle.hir_def_map.specs.declared.path_resolution.result.ResolveMode.TheVariants as mode
use Rattle.hir_def_map.specs.Paths.{asked}
use Rattle.dm_maps.specs.GoesOn.{and_trait}
use Rattle.dm_maps.specs.World.{scope_of}
use Rattle.dm_retry.specs.Rounds.{State}
use Rattle.dm_retry.proofs.ChangeLemmas.{keeps-trait, scoped-keeps, stay-settled}
use Rattle.dm_retry.proofs.imports.Imports.push_unnamed_trait.Goals as goal

pub invariant_of-self-2 : goal.invariant_of-self-2
invariant_of-self-2 c =
    let s : State = record { world = c.self.inside.world; globs = c.self.inside.globs; pending = c.self.inside.pendings } in
    let a = c.args in
    let v = c.push_unnamed_trait.new.self in
    let e = c.in_ok-push_unnamed_trait.ensures in
    let old = scope_of s.world a.m in
    stay-settled s v c.self.invariant
    (record {
      alike = λ w v L K m kind S. c.answers_alike.ensures w v L K (asked m mode.Import shadow.Module None kind) S;
      stays = e.stays_known;
      scopes = scoped-keeps s.world v a.m (and_trait old a.tr a.vis a.import) e.scopes (keeps-trait old a.tr a.vis a.import);
      none = e.stays [];
    }) e.stays

use Rattle.std.proofs.Common.{[], None}
use Rattle.dm_def_map.specs.declared.modules.modes.BuiltinShadowMode.TheVariants as shadow
use Rattle.hir_def_map.specs.declared.path_resolution.result.ResolveMode.TheVariants as mode
use Rattle.hir_def_map.specs.Paths.{asked}
use Rattle.dm_retry.specs.Rounds.{State}
use Rattle.dm_retry.proofs.ChangeLemmas.{grown-keeps, stay-settled}
use Rattle.dm_retry.proofs.imports.Imports.add_diagnostic.Goals as goal

pub invariant_of-self-2 : goal.invariant_of-self-2
invariant_of-self-2 c =
    let s : State = record { world = c.self.inside.world; globs = c.self.inside.globs; pending = c.self.inside.pendings } in
    let v = c.add_diagnostic.new.self in
    let e = c.add_diagnostic.ensures in
    stay-settled s v c.self.invariant
    (record {
      alike = λ w v L K m kind S. c.answers_alike.ensures w v L K (asked m mode.Import shadow.Module None kind) S;
      stays = e.stays_known;
      scopes = grown-keeps s.world v e.grown;
      none = e.stays [];
    }) e.stays

use Rattle.std.proofs.Common.{◌∙◌, None, Some, sym}
use Rattle.dm_base.specs.declared.imports.ImportOrExternCrate.TheVariants as wide
use Rattle.dm_def_map.specs.declared.modules.modes.BuiltinShadowMode.TheVariants as shadow
use Rattle.hir_def_map.specs.declared.path_resolution.result.ResolveMode.TheVariants as mode
use Rattle.hir_def_map.specs.Paths.{asked}
use Rattle.dm_maps.specs.World.{scope_of}
use Rattle.dm_retry.specs.Rounds.{by_import}
use Rattle.dm_retry.proofs.ScopeLemmas.{idle-globs}
use Rattle.dm_retry.proofs.TryLemmas.{idle-push, others-rest, own-rests, push-traits, pushed-by}
use Rattle.dm_retry.proofs.attempt.push_named.Goals as goal

pub returns-then-not-would_write-clause-world : goal.returns-then-not-would_write-clause-world
returns-then-not-would_write-clause-world c =
    let p = c.args.pending.now in
    sym (idle-push c.args.world.now c.args.globs.now p.origin p.name c.args.items (by_import p) c.requires.some (sym c.would_write.ensures ∙ c.if-not-would_write.true))

pub returns-then-not-would_write-clause-globs : goal.returns-then-not-would_write-clause-globs
returns-then-not-would_write-clause-globs c =
    let p = c.args.pending.now in
    sym (idle-globs (scope_of c.args.world.now p.origin) c.args.globs.now p.origin p.name c.args.items (by_import p) (sym c.would_write.ensures ∙ c.if-not-would_write.true))

pub returns-clause-others : goal.returns-clause-others
returns-clause-others c =
    let w = c.args.world.now in
    let g = c.args.globs.now in
    let p = c.args.pending.now in
    let x = c.args.items in
    let v = c.push_res.new.self in
    let h = c.push_res.new.glob_imports in
    let e = c.in_ok-answer.ensures in
    others-rest w v g h p.origin p.name x (by_import p)
    (pushed-by w v g h p x (λ w v L K m kind S. c.answers_alike.ensures w v L K (asked m mode.Import shadow.Module None kind) S) e.stays_known
    (push-traits w v g c.origin.result c.in_ok-name.name x (Some (wide.Import c.import.result)) e.gives.scope e.others)
    c.origin.result c.in_ok-name.name c.import.result c.origin.ensures (c.in_ok-name.ensures ∙ c.name.ensures) c.import.ensures e.law c.push_res.ensures.others_stay)

pub returns-clause-own : goal.returns-clause-own
returns-clause-own c = λ named is other.
    let w = c.args.world.now in
    let g = c.args.globs.now in
    let p = c.args.pending.now in
    let x = c.args.items in
    let v = c.push_res.new.self in
    let h = c.push_res.new.glob_imports in
    let e = c.in_ok-answer.ensures in
    own-rests w v g h p x
    (pushed-by w v g h p x (λ w v L K m kind S. c.answers_alike.ensures w v L K (asked m mode.Import shadow.Module None kind) S) e.stays_known
    (push-traits w v g c.origin.result c.in_ok-name.name x (Some (wide.Import c.import.result)) e.gives.scope e.others)
    c.origin.result c.in_ok-name.name c.import.result c.origin.ensures (c.in_ok-name.ensures ∙ c.name.ensures) c.import.ensures e.law c.push_res.ensures.others_stay)
    named is other

use Rattle.std.proofs.Common.{◌≡◌, ◌∙◌, List, None, false, ap, cond, map, subst, sym}
use Rattle.dm_def_map.specs.declared.modules.modes.BuiltinShadowMode.TheVariants as shadow
use Rattle.hir_def_map.specs.declared.path_resolution.result.ResolveMode.TheVariants as mode
use Rattle.hir_def_map.specs.Paths.{asked}
use Rattle.dm_retry.specs.Known.{comes_by, parts}
use Rattle.dm_retry.specs.Rounds.{Pending, State, awoken}
use Rattle.dm_retry.specs.Settled.{IsSettled}
use Rattle.dm_retry.proofs.TryLemmas.{push-traits}
use Rattle.dm_retry.proofs.PushLemmas.{push-settles}
use Rattle.dm_retry.proofs.imports.Imports.push_res.Goals as goal

pub invariant_of-self-2 : goal.invariant_of-self-2
invariant_of-self-2 c =
    let s : State = record { world = c.self.inside.world; globs = c.self.inside.globs; pending = c.self.inside.pendings } in
    let a = c.args in
    let e = c.in_ok-written.ensures in
    let settled = push-settles s c.push_res.new.self c.push_res.new.glob_imports a.lookup.0 a.lookup.1 a.res a.import c.self.invariant
    (record {
      alike = λ w v L K m kind S. c.answers_alike.ensures w v L K (asked m mode.Import shadow.Module None kind) S;
      stays = e.stays_known;
      traits = push-traits s.world c.push_res.new.self s.globs a.lookup.0 a.lookup.1 a.res a.import e.gives.scope e.others;
      law = e.law;
      cuts = e.others_stay;
    })
    (λ (q : Pending). e.stays_known.all (parts q))
    (subst (λ (t : State). comes_by t.pending a.import ≡ false) (sym c.self.view_is) c.requires.apart)
    c.in_ok-written.written e.gives.answer in
    subst (λ (l : List Pending). IsSettled (record { world = c.push_res.new.self; globs = c.push_res.new.glob_imports; pending = l })) (sym (c.wake_all.ensures ∙ ap (λ n. cond c.in_ok-written.written (map (awoken n) s.pending) s.pending) c.in_ok-name.ensures)) settled

use Rattle.std.proofs.Common.{◌≡◌, ◌∙◌, List, None, ap, subst, sym}
use Rattle.dm_retry.specs.Known.{add_fault}
use Rattle.dm_retry.specs.Rounds.{Pending, State}
use Rattle.dm_retry.specs.Settled.{IsSettled}
use Rattle.dm_retry.proofs.AddLemmas.{adds}
use Rattle.dm_retry.proofs.imports.Imports.add.Goals.{in-Err, in-Ok}
use Rattle.dm_retry.proofs.imports.Imports.add.Goals as goal

pub invariant_of-self : goal.invariant_of-self
invariant_of-self c =
    let s : State = record { world = c.self.inside.world; globs = c.self.inside.globs; pending = c.self.inside.pendings } in
    let p = c.args.pending in
    let taken : add_fault s.world s.pending p ≡ None = ap (λ (t : State). add_fault t.world t.pending p) c.self.view_is ∙ sym c.in-None.ensures in
    elim c.match-add.branch as (λ _. IsSettled (record { world = s.world; globs = s.globs; pending = c.add.new.self })) [
      | in-Err w ↦ subst (λ (l : List Pending). IsSettled (record { world = s.world; globs = s.globs; pending = l })) (sym w.in-Err.ensures.err) c.self.invariant
      | in-Ok w ↦ subst (λ (l : List Pending). IsSettled (record { world = s.world; globs = s.globs; pending = l })) (sym w.in-Ok.ensures.ok) (adds s p c.self.invariant taken)
    ]

use Rattle.std.proofs.Common.{◌∙◌, List, ap, slice_get, subst, sym}
use Rattle.std.specs.Option.{option_map}
use Rattle.dm_retry.specs.Rounds.{Pending, State}
use Rattle.dm_retry.specs.Retries.{RestsAt}
use Rattle.dm_retry.proofs.SettleLemmas.{rests, undue}
use Rattle.dm_retry.proofs.imports.Imports.due.Goals as goal

pub returns-clause-rests : goal.returns-clause-rests
returns-clause-rests c =
    let s : State = record { world = c.self.inside.world; globs = c.self.inside.globs; pending = c.self.inside.pendings } in
    let i = c.args.i in
    let mark = c.mark_of.ensures ∙ ap (λ (l : List Pending). option_map (λ (p : Pending). p.due) (slice_get l i)) c.as_slice.ensures in
    λ none. subst (λ (t : State). RestsAt t i) c.self.view_is (rests s c.self.invariant i (undue (slice_get s.pending i) (sym mark ∙ none)))

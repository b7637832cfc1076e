use Rattle.std.proofs.Common.{◌≡◌, ◌∙◌, ◌<◌, ℕ, List, ap, false, get_or, length, subst, sym}
use Rattle.std.specs.Option.{option_map_or}
use Rattle.dm_maps.specs.Cut.{among}
use Rattle.dm_maps.specs.Known.{KnowsAll}
use Rattle.dm_retry.specs.Known.{parts, same_leaf}
use Rattle.dm_retry.specs.Rounds.{Pending, State, would_write, would_write_at, marked_after, marked_at, refused_at, tried, try_at}
use Rattle.dm_retry.specs.Settled.{IsSettled}
use Rattle.dm_retry.proofs.TryLemmas.{idle-table, idle-world}
use Rattle.dm_retry.proofs.SettleLemmas.{refuses, settles}
use Rattle.dm_retry.proofs.TakeLemmas.{Taken, back, same-would_write, same-globs, same-world, taken, wakes}
use Rattle.dm_retry.proofs.imports.Imports.try_at.Goals as goal

-- the import at a place, as it was before it was taken
there : (s u : State) (i : ℕ) (q : Pending) (qs ls : List Pending) → s ≡ u → i < length u.pending → qs ≡ marked_at s.pending i false → ls ≡ qs → q ≡ get_or ls i q → Taken s.pending qs i q
there s u i q qs ls same within marks are is =
    taken s.pending qs i q (subst (λ (v : State). i < length v.pending) (sym same) within) marks (is ∙ ap (λ (l : List Pending). get_or l i q) are)

pub attempt-requires : goal.attempt-requires
attempt-requires c =
    let s : State = record { world = c.self.inside.world; globs = c.self.inside.globs; pending = c.self.inside.pendings } in
    let i = c.args.i in
    let q = c.index-as_slice-i.result in
    let t = there s c.args.self.now i q c.take.new.self c.as_slice.result.now c.self.view_is c.requires c.in_ok-take.ensures.ok c.as_slice.ensures c.index-as_slice-i.is in
    record { known = subst (λ (z : Pending). KnowsAll s.world (parts z)) (sym t.is) (c.self.invariant.known i t.p t.at) }

pub invariant_of-self-in-Err : goal.invariant_of-self-in-Err
invariant_of-self-in-Err c =
    let s : State = record { world = c.self.inside.world; globs = c.self.inside.globs; pending = c.self.inside.pendings } in
    let i = c.args.i in
    let q = c.index-as_slice-i.result in
    let t = there s c.args.self.now i q c.take.new.self c.as_slice.result.now c.self.view_is c.requires c.in_ok-take.ensures.ok c.as_slice.ensures c.index-as_slice-i.is in
    let put = c.put_back.ensures ∙ back s.pending c.take.new.self i q t in
    let after : record { world = c.attempt.new.world; globs = c.attempt.new.globs; pending = c.put_back.new.self } ≡ refused_at s i =
    λ k. record { world = c.in-Err.ensures.err k; globs = c.in-Err.ensures.err_globs k; pending = put k } in
    subst IsSettled (sym after) (refuses s i t.p c.self.invariant t.at)

pub returns-in-Err-clause-err : goal.returns-in-Err-clause-err
returns-in-Err-clause-err c =
    let s : State = record { world = c.self.inside.world; globs = c.self.inside.globs; pending = c.self.inside.pendings } in
    let i = c.args.i in
    let q = c.index-as_slice-i.result in
    let t = there s c.args.self.now i q c.take.new.self c.as_slice.result.now c.self.view_is c.requires c.in_ok-take.ensures.ok c.as_slice.ensures c.index-as_slice-i.is in
    let put = c.put_back.ensures ∙ back s.pending c.take.new.self i q t in
    let after : record { world = c.attempt.new.world; globs = c.attempt.new.globs; pending = c.put_back.new.self } ≡ refused_at s i =
    λ k. record { world = c.in-Err.ensures.err k; globs = c.in-Err.ensures.err_globs k; pending = put k } in
    after ∙ ap (λ (u : State). refused_at u i) c.self.view_is

pub invariant_of-self-in-Ok : goal.invariant_of-self-in-Ok
invariant_of-self-in-Ok c =
    let s : State = record { world = c.self.inside.world; globs = c.self.inside.globs; pending = c.self.inside.pendings } in
    let i = c.args.i in
    let q = c.index-as_slice-i.result in
    let t = there s c.args.self.now i q c.take.new.self c.as_slice.result.now c.self.view_is c.requires c.in_ok-take.ensures.ok c.as_slice.ensures c.index-as_slice-i.is in
    let w = s.world in
    let g = s.globs in
    let v = c.attempt.new.world in
    let h = c.attempt.new.globs in
    let e = c.in-Ok.ensures in
    let answer = e.answer ∙ same-would_write w g t.p q t.is in
    subst (λ (l : List Pending). IsSettled (record { world = v; globs = h; pending = l })) (sym (wakes s.pending c.take.new.self i q t c.wake_after.new.pendings c.in-Ok.written c.wake_after.ensures))
    (settles s i t.p c.self.invariant t.at v h c.in-Ok.written answer e.known
    (subst (λ (z : Pending). (r : Pending) → same_leaf r.import z.import ≡ false → among r.path.segments z.name ≡ false → would_write w g r ≡ false → would_write v h r ≡ false) t.is e.others)
    (λ none. sym (same-would_write v h t.p q t.is) ∙ e.own (ap (λ (z : Pending). among z.path.segments z.name) t.is ∙ none))
    (λ none r before. let idle : would_write w g t.p ≡ false = sym answer ∙ none in
    (λ k. would_write ((e.world ∙ same-world w g t.p q t.is ∙ idle-world w g t.p idle) k) ((e.globs ∙ same-globs w g t.p q t.is ∙ idle-table w g t.p idle) k) r) ∙ before))

pub returns-in-Ok-clause-state : goal.returns-in-Ok-clause-state
returns-in-Ok-clause-state c =
    let s : State = record { world = c.self.inside.world; globs = c.self.inside.globs; pending = c.self.inside.pendings } in
    let i = c.args.i in
    let q = c.index-as_slice-i.result in
    let t = there s c.args.self.now i q c.take.new.self c.as_slice.result.now c.self.view_is c.requires c.in_ok-take.ensures.ok c.as_slice.ensures c.index-as_slice-i.is in
    let w = s.world in
    let g = s.globs in
    let e = c.in-Ok.ensures in
    let marks = wakes s.pending c.take.new.self i q t c.wake_after.new.pendings c.in-Ok.written c.wake_after.ensures ∙ ap (marked_after s.pending i) (e.answer ∙ same-would_write w g t.p q t.is) in
    let world = e.world ∙ same-world w g t.p q t.is in
    let globs = e.globs ∙ same-globs w g t.p q t.is in
    let done : record { world = c.attempt.new.world; globs = c.attempt.new.globs; pending = c.wake_after.new.pendings } ≡ tried s i t.p =
    λ k. record { world = world k; globs = globs k; pending = marks k } in
    done ∙ sym (ap (λ o. option_map_or (tried s i) o s) t.at) ∙ ap (λ (u : State). try_at u i) c.self.view_is

pub returns-in-Ok-clause-answer : goal.returns-in-Ok-clause-answer
returns-in-Ok-clause-answer c =
    let s : State = record { world = c.self.inside.world; globs = c.self.inside.globs; pending = c.self.inside.pendings } in
    let i = c.args.i in
    let q = c.index-as_slice-i.result in
    let t = there s c.args.self.now i q c.take.new.self c.as_slice.result.now c.self.view_is c.requires c.in_ok-take.ensures.ok c.as_slice.ensures c.index-as_slice-i.is in
    c.in-Ok.ensures.answer ∙ same-would_write s.world s.globs t.p q t.is ∙ sym (ap (λ o. option_map_or (would_write s.world s.globs) o false) t.at) ∙ ap (λ (u : State). would_write_at u i) c.self.view_is

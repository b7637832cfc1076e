use Rattle.std.proofs.Common.{◌≡◌, ◌∙◌, ◌<◌, List, [], Some, ap, length, map, slice_get, subst, sym}
use Rattle.std.specs.Option.{option_map_or}
use Rattle.std.proofs.lemmas.Option.{slice_get-get_or}
use Rattle.dm_base.specs.Names.{Name}
use Rattle.dm_retry.proofs.KeptLemmas.{all-awoken, ready-woken, woken}
use Rattle.dm_retry.specs.Rounds.{Pending, awoken, name_at}
use Rattle.dm_retry.specs.Unresolved.{AllDirty}
use Rattle.dm_retry.proofs.worklist.Worklist.wake_by.Goals as goal

pub invariant_of-self : goal.invariant_of-self
invariant_of-self c =
    let was = c.self.inside in
    let n = c.name.result.now in
    let xs = c.mark_each.new.imports.items in
    let kept = c.self.invariant.kept c.if-self.true in
    ready-woken was.index.entries c.mark_each.new.dirty was.imports.items xs n was.ready c.if-self.true kept.indexed
    (woken was.index.entries was.imports.items xs n c.places_of-places.result.now kept.indexed c.places_of-places.ensures c.mark_each.ensures.imports)
    c.mark_each.ensures.marks

pub returns-then-self : goal.returns-then-self
returns-then-self c =
    let was = c.self.inside in
    let xs = was.imports.items in
    let k = c.args.k in
    let n = c.name.result.now in
    let x = c.index.result.now in
    let kept = c.self.invariant.kept c.if-self.true in
    let within : k < length xs = subst (λ (l : List Pending). k < length l) (sym c.self.view_is) c.requires in
    let at : slice_get xs k ≡ Some x = slice_get-get_or xs k x within ∙ ap Some (sym c.index.ensures) in
    let same : n ≡ name_at c.args.self.now k = c.name.ensures ∙ sym (ap (λ o. option_map_or (λ (p : Pending). p.name) o []) at) ∙ ap (λ (l : List Pending). name_at l k) c.self.view_is in
    woken was.index.entries xs c.mark_each.new.imports.items n c.places_of-places.result.now kept.indexed c.places_of-places.ensures c.mark_each.ensures.imports
    ∙ ap (λ (m : Name). map (awoken m) xs) same
    ∙ ap (map (awoken (name_at c.args.self.now k))) c.self.view_is

pub returns-else-self : goal.returns-else-self
returns-else-self c =
    let xs = c.args.self.now in
    sym (all-awoken xs (name_at xs c.args.k) (subst (AllDirty) c.self.view_is (c.self.invariant.before c.if-self.false)))

use Rattle.std.proofs.Common.{◌∙◌, sym, ap}
use Rattle.dm_scope.proofs.BindingChanges.{change_item-present, change_item-absent}
use Rattle.dm_scope.proofs.bindings.changes.set_def.Goals as goal

pub returns-in-Some : goal.returns-in-Some
returns-in-Some g c =
    (c.get_mut.follows.holds _).0
    ∙ change_item-present (λ x. record x { def = c.args.def; vis = c.args.vis }) c.args.name.now c.args.items.now.entries c.in-Some.item.now (sym c.in-Some.ensures.value)

pub returns-in_default : goal.returns-in_default
returns-in_default g c =
    ap (λ m. m.entries) c.get_mut.follows.holds-at-none
    ∙ sym (change_item-absent (λ x. record x { def = c.args.def; vis = c.args.vis }) c.args.name.now c.args.items.now.entries (sym c.in_default.ensures.value))

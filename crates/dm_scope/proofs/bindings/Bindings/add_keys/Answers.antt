use Rattle.std.proofs.Common.{◌≡◌, ◌∙◌}
use Rattle.std.specs.Str.{bytes_eq}
use Rattle.dm_scope.specs.Entries.{without_new}
use Rattle.dm_scope.proofs.EntryLemmas.{without_new-add_entry}
use Rattle.dm_scope.proofs.bindings.Bindings.add_keys.Goals as goal

pub returns-in-Err-clause-err : goal.returns-in-Err-clause-err
returns-in-Err-clause-err g c =
    let items : c.take_off.new.self ≡ c.self.inside.items =
    c.take_off.ensures
    ∙ (λ i. without_new (c.in_ok-item_is_new.ensures.new i) (c.in_ok-item_is_new.ensures.entries i))
    ∙ without_new-add_entry bytes_eq c.args.name.now c.stored.result c.self.inside.items in
    (λ i. record { items = items i; records = c.in-Err.ensures.err i }) ∙ c.self.view_is

use Rattle.std.proofs.Common.{◌∙◌, ap, sym}
use Rattle.dm_imports.specs.Slots.{name_at}
use Rattle.dm_imports.proofs.TableLemmas.{name_at-entries, named}
use Rattle.dm_imports.proofs.name_table.NameTable.get.Goals as goal

pub returns-in-Some : goal.returns-in-Some
returns-in-Some g c =
    c.copied.ensures ∙ c.get-in-Some.ensures.value
    ∙ ap (named c.args.name.now) c.in-Some.ensures.value
    ∙ sym (name_at-entries c.self.inside.modules.entries c.args.m c.args.name.now)
    ∙ ap (λ t. name_at t c.args.m c.args.name.now) c.self.view_is

pub returns-in-None : goal.returns-in-None
returns-in-None g c =
    ap (named c.args.name.now) c.in-None.ensures.value
    ∙ sym (name_at-entries c.self.inside.modules.entries c.args.m c.args.name.now)
    ∙ ap (λ t. name_at t c.args.m c.args.name.now) c.self.view_is

use Rattle.std.proofs.Common.{◌∙◌, ap, cond, sym, Some}
use Rattle.dm_base.specs.Names.{find_name, same_name}
use Rattle.dm_imports.proofs.TableLemmas.{name_at-with, named}
use Rattle.dm_imports.proofs.name_table.put_first.Goals as goal

pub returns : goal.returns
returns g c k n =
    name_at-with c.args.m c.args.modules.now.entries c.insert.new.self.entries c.put_name.new.names c.in_ok-insert.ensures.updates.0 c.args.name c.args.value
    (λ x. c.in_ok-put_name.ensures x
    ∙ ap (λ es. cond (same_name c.args.name x) (Some c.args.value) (find_name x es)) c.new-names.ensures.empty
    ∙ ap (λ o. cond (same_name c.args.name x) (Some c.args.value) (named x o)) (sym c.requires)) k n

use Rattle.std.proofs.Common.{◌∙◌, sym, ap, map-id}
use Rattle.dm_base.specs.declared.per_ns.Namespace.TheVariants.{Types, Macros}
use Rattle.dm_scope.specs.Records.{records_in}
use Rattle.dm_scope.proofs.item_scope.ItemScope.import_records.Goals as goal

pub returns-in-Types-clause-rest : goal.returns-in-Types-clause-rest
returns-in-Types-clause-rest c =
    c.wide.ensures.rest ∙ c.records.ensures ∙ map-id c.self.inside.types.records
    ∙ ap (records_in Types) c.self.view_is ∙ ap (λ n. records_in n c.args.self.now) (sym c.in-Types.is)

pub returns-in-Macros-clause-rest : goal.returns-in-Macros-clause-rest
returns-in-Macros-clause-rest c =
    c.wide-in-Macros.ensures.rest ∙ c.records-in-Macros.ensures ∙ map-id c.self.inside.macros.records
    ∙ ap (records_in Macros) c.self.view_is ∙ ap (λ n. records_in n c.args.self.now) (sym c.in-Macros.is)

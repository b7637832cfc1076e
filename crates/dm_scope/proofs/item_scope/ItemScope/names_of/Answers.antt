use Rattle.std.proofs.Common.{◌∙◌, sym, ap}
use Rattle.dm_base.specs.declared.item_in_ns.ItemInNs.TheVariants.{Types, Values, Macros}
use Rattle.dm_scope.specs.Lookups.{names_for}
use Rattle.dm_scope.proofs.AskLemmas.{AsksNames-same, MayAskNames-same}
use Rattle.dm_scope.proofs.item_scope.ItemScope.names_of.Goals as goal

pub names_of-requires : goal.names_of-requires
names_of-requires g c =
    MayAskNames-same (goal.F-pre g) (goal.F-step g) _ _ c.args.f
    (ap (λ i. names_for i c.args.self.now) c.in-Types.is ∙ ap (names_for (Types c.in-Types.def)) (sym c.self.view_is))
    c.requires

pub returns-in-Types : goal.returns-in-Types
returns-in-Types g c =
    AsksNames-same _ _ _ c.args.f c.names_of.result
    (ap (names_for (Types c.in-Types.def)) c.self.view_is ∙ ap (λ i. names_for i c.args.self.now) (sym c.in-Types.is))
    c.names_of.ensures

pub names_of-requires-in-Values : goal.names_of-requires-in-Values
names_of-requires-in-Values g c =
    MayAskNames-same (goal.F-pre g) (goal.F-step g) _ _ c.args.f
    (ap (λ i. names_for i c.args.self.now) c.in-Values.is ∙ ap (names_for (Values c.in-Values.def)) (sym c.self.view_is))
    c.requires

pub returns-in-Values : goal.returns-in-Values
returns-in-Values g c =
    AsksNames-same _ _ _ c.args.f c.names_of-in-Values.result
    (ap (names_for (Values c.in-Values.def)) c.self.view_is ∙ ap (λ i. names_for i c.args.self.now) (sym c.in-Values.is))
    c.names_of-in-Values.ensures

pub names_of-requires-in-Macros : goal.names_of-requires-in-Macros
names_of-requires-in-Macros g c =
    MayAskNames-same (goal.F-pre g) (goal.F-step g) _ _ c.args.f
    (ap (λ i. names_for i c.args.self.now) c.in-Macros.is ∙ ap (names_for (Macros c.in-Macros.def)) (sym c.self.view_is))
    c.requires

pub returns-in-Macros : goal.returns-in-Macros
returns-in-Macros g c =
    AsksNames-same _ _ _ c.args.f c.names_of-in-Macros.result
    (ap (names_for (Macros c.in-Macros.def)) c.self.view_is ∙ ap (λ i. names_for i c.args.self.now) (sym c.in-Macros.is))
    c.names_of-in-Macros.ensures

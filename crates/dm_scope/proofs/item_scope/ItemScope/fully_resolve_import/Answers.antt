use Rattle.std.proofs.Common.{◌∙◌, Some, ap, sym, refl}
use Rattle.std.specs.Option.{option_map, option_and_then}
use Rattle.dm_base.specs.Definitions.{widened_macro}
use Rattle.dm_base.specs.declared.per_ns.Namespace.TheVariants.{Types, Values, Macros}
use Rattle.dm_scope.specs.Chains.{public_item}
use Rattle.dm_scope.specs.ChainSteps.{macro_of}
use Rattle.dm_scope.proofs.ChainLemmas.{some_is}
use Rattle.dm_scope.proofs.ChainTables.{IsFound-found_from, macro_of-back, option_and_then-some}
use Rattle.dm_scope.proofs.item_scope.ItemScope.fully_resolve_import.Goals as goal

pub returns-clause-types : goal.returns-clause-types
returns-clause-types g c =
    IsFound-found_from Types (g.T.ScopeTables.tables c.args.tables.now) _ (λ d. d) (λ d. Some d) (λ _. refl) (λ e d is. sym (some_is e d is)) _ _
    (c.public_item.ensures ∙ ap (option_map public_item) (c.chain_end-types.ensures ∙ sym (option_and_then-some _)))

pub returns-clause-values : goal.returns-clause-values
returns-clause-values g c =
    IsFound-found_from Values (g.T.ScopeTables.tables c.args.tables.now) _ (λ d. d) (λ d. Some d) (λ _. refl) (λ e d is. sym (some_is e d is)) _ _
    (c.public_item-2.ensures ∙ ap (option_map public_item) (c.chain_end-values.ensures ∙ sym (option_and_then-some _)))

pub returns-clause-macros : goal.returns-clause-macros
returns-clause-macros g c =
    IsFound-found_from Macros (g.T.ScopeTables.tables c.args.tables.now) _ widened_macro macro_of (λ _. refl) macro_of-back _ _
    (c.public_item-3.ensures ∙ ap (option_map public_item) (c.as_macro.ensures ∙ ap (option_and_then macro_of) c.chain_end-macros.ensures))

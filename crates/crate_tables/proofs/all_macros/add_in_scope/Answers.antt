use Rattle.std.proofs.Common.{◌∙◌, ap}
use Rattle.crate_tables.proofs.CrowdLemmas.{scope-crowd}
use Rattle.crate_tables.proofs.ShortLemmas.{passed}
use Rattle.std.proofs.lemmas.List.Elements.{All-weaker}
use Rattle.crate_tables.proofs.KeptLemmas.{kept-further, kept-grown, kept-textual}
use Rattle.crate_tables.proofs.TextualLemmas.{all-stay}
use Rattle.crate_tables.specs.CrateTables.{IsMacroOf, textual_holds}
use Rattle.crate_items.specs.TextualScopes.{textual_scopes}
use Rattle.crate_tables.specs.NewModules.{CrateView}
use Rattle.crate_tables.proofs.all_macros.add_in_scope.Goals as goal

pub returns-in_err-add_textual_macros-clause-stays : goal.returns-in_err-add_textual_macros-clause-stays
returns-in_err-add_textual_macros-clause-stays c = kept-textual _ _ c.in_err-add_textual_macros.ensures.stays c.in_err-add_textual_macros.ensures.shown

pub add_uses-requires-clause-macros : goal.add_uses-requires-clause-macros
add_uses-requires-clause-macros c =
    All-weaker (IsMacroOf c.args.builder.now) (IsMacroOf c.add_textual_macros.new.builder) (λ id k. all-stay c.args.builder.now c.add_textual_macros.new.builder c.in_ok-add_textual_macros.ensures.stays (textual_holds id) k) c.args.macros.now c.requires.macros

pub returns-in_err-add_uses-clause-stays : goal.returns-in_err-add_uses-clause-stays
returns-in_err-add_uses-clause-stays c =
    kept-further _ _ _ (kept-textual _ _ c.in_ok-add_textual_macros.ensures.stays c.in_ok-add_textual_macros.ensures.shown) (kept-grown _ _ c.in_err-add_uses.ensures.grown)

pub returns-clause-stays : goal.returns-clause-stays
returns-clause-stays c =
    kept-further _ _ _ (kept-textual _ _ c.in_ok-add_textual_macros.ensures.stays c.in_ok-add_textual_macros.ensures.shown) (kept-grown _ _ c.in_ok-add_uses.ensures.grown)

pub returns-in_err-add_uses-clause-fault : goal.returns-in_err-add_uses-clause-fault
returns-in_err-add_uses-clause-fault c =
    passed c.from_residual-in_err-add_uses.result c.in_err-add_uses.field-0.0 _ c.from_residual-in_err-add_uses.ensures.1
    (scope-crowd c.args.view.now (record { world = c.args.builder.now; table = c.args.table.now; ids = c.args.macros.now }) c.args.items.now _ _ _
    c.in_ok-add_textual_macros.ensures.world
    (c.as_slice-scopes.ensures.value ∙ c.in_ok-made.ensures ∙ ap (λ (v : CrateView). textual_scopes v.list c.args.items.now) c.view.view_is)
    c.in_err-add_uses.ensures.fault)

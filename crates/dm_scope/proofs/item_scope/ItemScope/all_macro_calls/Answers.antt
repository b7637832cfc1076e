use Rattle.std.proofs.Common.{◌∙◌, ◌++◌, ap, map, flat_map}
use Rattle.dm_scope.specs.MacroCalls.{calls_in, item_calls}
use Rattle.dm_scope.specs.AllCalls.{all_calls}
use Rattle.dm_scope.proofs.CallLemmas.{item_calls_is}
use Rattle.dm_scope.proofs.item_scope.ItemScope.all_macro_calls.Goals as goal

pub returns-clause-rest : goal.returns-clause-rest
returns-clause-rest c =
    let calls = c.as_slice.ensures ∙ c.values.ensures.rest ∙ ap (map (λ e. e.1)) c.macro_invocations.ensures in
    let attributes = c.as_slice-2.ensures ∙ c.values-2.ensures.rest ∙ ap (map (λ e. e.1)) c.attr_macros.ensures in
    let derives = ap item_calls (c.as_slice-3.ensures ∙ c.values-3.ensures.rest) ∙ item_calls_is c.derive_macros.result ∙ ap (flat_map (λ e. calls_in e.1)) c.derive_macros.ensures in
    c.new.ensures.rest ∙ (λ k. calls k ++ attributes k ++ derives k) ∙ ap all_calls c.self.view_is

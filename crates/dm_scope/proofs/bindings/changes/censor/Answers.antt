use Rattle.std.proofs.Common.{rules}
use Rattle.std.proofs.lemmas.Map.Made.{map_same_pairs}
use Rattle.dm_scope.specs.Changes.{censored}
use Rattle.dm_scope.proofs.bindings.changes.censor.Goals as goal

pub returns : goal.returns
returns g c = map_same_pairs _ (censored c.args.krate) _ (λ k v b w f' t. search rules) _ _ c.retain.ensures.filtered

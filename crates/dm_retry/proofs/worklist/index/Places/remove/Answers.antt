use Rattle.std.proofs.Common.{◌∙◌, ap, filter, nat_eq, not, rules}
use Rattle.std.proofs.lemmas.Fn.{filter_same}
use Rattle.dm_retry.proofs.worklist.index.Places.remove.Goals as goal

pub returns : goal.returns
returns c =
    filter_same _ (λ place. not (nat_eq place c.args.k)) _ (λ x b f' k. search rules) _ _ c.retain.ensures.filtered
    ∙ ap (filter (λ place. not (nat_eq place c.args.k))) c.self.view_is

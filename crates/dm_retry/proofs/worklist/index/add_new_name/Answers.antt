use Rattle.std.proofs.Common.{◌∙◌, ◌++◌, ◌∷◌, [], ℕ, List, ap, ap₂}
use Rattle.dm_base.specs.Names.{same_name}
use Rattle.indexmap.specs.IndexMap.{get}
use Rattle.indexmap.proofs.CallerLemmas.{insert_entry-new}
use Rattle.dm_retry.proofs.worklist.index.add_new_name.Goals as goal

pub returns-clause-ok : goal.returns-clause-ok
returns-clause-ok c =
    c.in_ok-insert.ensures.entries
    ∙ insert_entry-new same_name c.args.index.now _ _ (ap (get same_name c.args.index.now) c.in_ok-key.ensures ∙ c.requires)
    ∙ ap₂ (λ (n l : List ℕ). c.args.index.now.entries ++ (n, l) ∷ []) c.in_ok-key.ensures c.in_ok-places.ensures

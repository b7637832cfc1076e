use Rattle.indexmap.proofs.SetLemmas.{zip_same}
use Rattle.dm_def_map.proofs.crate_data.copy_table.Goals as goal

pub returns : goal.returns
returns g c =
    zip_same (λ p q. g.K.Clone.is_clone p.0 q.0 × g.V.Clone.is_clone p.1 q.1) (λ p q same. λ i. (c.requires.keys p.0 q.0 same.0 i, c.requires.values p.1 q.1 same.1 i)) c.args.table.now.entries c.in_ok-copy.copy.entries c.in_ok-copy.ensures.cases

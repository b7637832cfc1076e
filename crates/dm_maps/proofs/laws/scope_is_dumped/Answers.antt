use Rattle.dm_maps.proofs.NameOrder.{IsDump-scope_text}
use Rattle.dm_maps.proofs.laws.scope_is_dumped.Goals as goal

pub returns : goal.returns
returns c = λ t s. IsDump-scope_text t s

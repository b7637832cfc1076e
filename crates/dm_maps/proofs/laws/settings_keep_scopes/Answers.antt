use Rattle.dm_maps.proofs.SetLemmas.{set-maps, set-data, set-externs, set-tables, set-rules}
use Rattle.dm_maps.proofs.laws.settings_keep_scopes.Goals as goal

pub returns : goal.returns
returns c = record { maps = set-maps; crate_data = set-data; externs = set-externs; tables = set-tables; rules = set-rules }

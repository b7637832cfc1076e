use Rattle.std.proofs.Common.{◌∙◌, ap, true}
use Rattle.dm_imports.specs.Tables.{MapTables, of_tables}
use Rattle.dm_imports.proofs.KnowingLemmas.{known-tables}
use Rattle.dm_imports.proofs.rules.grounded.knowing.knowing.Goals as goal

pub returns : goal.returns
returns c =
    ap (λ (t : MapTables). of_tables (record t { ambiguous = record { table = c.args.known.now; is_all_but = true } })) c.maps.view_is
    ∙ known-tables c.args.maps.now c.args.known.now

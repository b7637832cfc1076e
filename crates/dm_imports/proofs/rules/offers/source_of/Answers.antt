use Rattle.dm_imports.specs.Tables.{asks, of_tables}
use Rattle.dm_imports.proofs.AskLemmas.{glob-may}
use Rattle.dm_imports.proofs.rules.offers.source_of.Goals as goal

pub path_meaning-found-requires : goal.path_meaning-found-requires
path_meaning-found-requires c = glob-may (of_tables c.args.maps.now) c.args.glob.now (asks c.glob_asks-asking.result) c.glob_asks-asking.ensures c.requires.into c.requires.variants

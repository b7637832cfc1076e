use Rattle.dm_imports.specs.Tables.{asks, of_tables}
use Rattle.dm_imports.proofs.AskLemmas.{glob-may}
use Rattle.dm_imports.proofs.rules.offers.offer_from.Goals as goal

pub member-requires : goal.member-requires
member-requires c = glob-may (of_tables c.args.maps.now) c.args.glob.now (asks c.glob_asks-asking.result) c.glob_asks-asking.ensures c.requires.into c.requires.variants

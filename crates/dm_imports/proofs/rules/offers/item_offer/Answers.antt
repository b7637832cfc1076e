use Rattle.dm_imports.specs.Tables.{asks, of_tables}
use Rattle.dm_imports.proofs.AskLemmas.{glob-may}
use Rattle.dm_imports.proofs.rules.offers.item_offer.Goals as goal

pub item_shown-requires-clause-asking : goal.item_shown-requires-clause-asking
item_shown-requires-clause-asking c = glob-may (of_tables c.args.maps.now) c.args.glob.now (asks c.glob_asks-asking.result) c.glob_asks-asking.ensures c.requires.into c.requires.variants

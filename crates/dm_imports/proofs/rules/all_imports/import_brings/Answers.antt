use Rattle.dm_imports.specs.Tables.{asks, of_tables}
use Rattle.dm_imports.proofs.AskLemmas.{import-may}
use Rattle.dm_imports.proofs.rules.all_imports.import_brings.Goals as goal

pub path_meaning-requires : goal.path_meaning-requires
path_meaning-requires c =
    import-may (of_tables c.args.maps.now) c.args.import.now (asks c.import_asks-asking.result) c.args.below.now c.import_asks-asking.ensures c.requires.below c.requires.named c.requires.home c.requires.variants

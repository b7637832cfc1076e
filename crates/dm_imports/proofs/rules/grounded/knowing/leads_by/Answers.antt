use Rattle.std.proofs.Common.{◌∙◌, ap}
use Rattle.dm_imports.specs.Grounded.{is_clear}
use Rattle.dm_imports.specs.Grounding.{offers_in, slots_of}
use Rattle.dm_imports.specs.Paths.{path_meaning}
use Rattle.dm_imports.specs.Tables.{asks, of_tables}
use Rattle.dm_imports.proofs.KnowingLemmas.{knowing-may}
use Rattle.dm_imports.proofs.rules.grounded.knowing.leads_by.Goals as goal

pub path_meaning-found-requires : goal.path_meaning-found-requires
path_meaning-found-requires c =
    knowing-may (of_tables c.args.maps.now) c.args.brought.now (slots_of c.args.known.now) (offers_in c.args.offered.now) c.args.import.now (of_tables c.knowing-seen.result) (asks c.knowing_asks-asking.result)
    c.knowing-seen.ensures c.knowing_asks-asking.ensures c.requires.ready c.requires.import

pub returns : goal.returns
returns c =
    c.is_clear.ensures ∙ ap is_clear c.path_meaning-found.ensures.value
    ∙ (λ i. is_clear (path_meaning (c.knowing-seen.ensures i) (c.knowing_asks-asking.ensures i) c.args.import.now.textual c.args.import.now.path c.args.namespace))

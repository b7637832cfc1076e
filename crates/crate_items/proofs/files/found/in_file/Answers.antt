use Rattle.std.proofs.Common.{◌≡◌, Some, rules}
use Rattle.crate_items.specs.Modules.{only, there_from}
use Rattle.crate_items.proofs.ThereLemmas.{only_known}
use Rattle.crate_items.proofs.files.found.in_file.Goals as goal

pub returns-clause-known : goal.returns-clause-known
returns-clause-known c =
    let at : only (there_from c.args.files.now 0 c.args.candidates.items) ≡ Some c.in-Some.there = search rules in
    c.in_ok-found-in-Some.ensures.known c.args.files.now (only_known c.args.files.now c.args.candidates.items c.in-Some.there at)

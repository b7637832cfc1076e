use Rattle.std.specs.Option.{option_copied}
use Rattle.dm_imports.specs.Tables.{of_tables}
use Rattle.dm_imports.proofs.ListedLemmas.{more-then, three-settled}
use Rattle.dm_imports.proofs.rules.grounded.ways.add_name.Goals as goal

pub returns-clause-settled : goal.returns-clause-settled
returns-clause-settled c =
    let d = of_tables c.args.maps.now in
    let m = c.args.home in
    let n = c.args.name.now in
    let i = option_copied c.args.import in
    let one = c.add_way.new in
    let two = c.add_way-2.new in
    let three = c.add_way-3.new in
    three-settled d one.known two.known three.known one.ways.items two.ways.items three.ways.items m n i c.in_ok-add_way-2.ensures.more c.in_ok-add_way-3.ensures.more
    c.in_ok-add_way.ensures.settled c.in_ok-add_way-2.ensures.settled c.in_ok-add_way-3.ensures.settled

pub returns-clause-more : goal.returns-clause-more
returns-clause-more c =
    let d = of_tables c.args.maps.now in
    let k = c.args.known.now in
    let ws = c.args.ways.now.items in
    let one = c.add_way.new in
    let two = c.add_way-2.new in
    let three = c.add_way-3.new in
    more-then d k two.known three.known ws two.ways.items three.ways.items
    (more-then d k one.known two.known ws one.ways.items two.ways.items c.in_ok-add_way.ensures.more c.in_ok-add_way-2.ensures.more) c.in_ok-add_way-3.ensures.more

use Rattle.dm_imports.specs.Grounding.{slots_of}
use Rattle.dm_imports.specs.Tables.{of_tables}
use Rattle.dm_imports.proofs.MarkLemmas.{those-dependent}
use Rattle.dm_imports.proofs.rules.order_dependent.order_dependent.Goals as goal

pub returns : goal.returns
returns c =
    those-dependent (of_tables c.args.maps.now) (slots_of c.args.judged.unsupported) (slots_of c.mark_open.new.found) c.args.left.now c.requires.just.marked c.requires.judged
    c.in_ok-mark_open.ensures.more c.in_ok-mark_open.ensures.marked c.in_ok-mark_open.ensures.just c.requires.all

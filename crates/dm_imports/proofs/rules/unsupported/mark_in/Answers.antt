use Rattle.std.proofs.Common.{◌∙◌, None, false, inl, inr, refl, sym, true≢false}
use Rattle.dm_imports.specs.Grounding.{way_of}
use Rattle.dm_imports.specs.OrderDependent.{IsUnsupported}
use Rattle.dm_imports.specs.Tables.{of_tables}
use Rattle.dm_imports.proofs.MarkLemmas.{marks-none, marks-slot}
use Rattle.dm_imports.proofs.WayLemmas.{given-has}
use Rattle.dm_imports.proofs.rules.unsupported.mark_in.Goals as goal

pub returns-then-agrees_in-clause-marks : goal.returns-then-agrees_in-clause-marks
returns-then-agrees_in-clause-marks c = marks-none (of_tables c.args.maps.now) c.args.found.now

pub returns-then-agrees_in-clause-judged : goal.returns-then-agrees_in-clause-judged
returns-then-agrees_in-clause-judged c = inl (c.agrees_in.ensures.0 c.if-agrees_in.true)

pub returns-clause-marks : goal.returns-clause-marks
returns-clause-marks c =
    let d = of_tables c.args.maps.now in
    let not : IsUnsupported d c.args.m c.args.name.now c.args.namespace = λ agrees. true≢false (sym (c.agrees_in.ensures.1 agrees) ∙ c.if-agrees_in.false) in
    marks-slot d c.args.found.now (record { unsupported = c.put.new.self; is_supported = false }) (way_of c.args.m c.args.name.now None c.args.namespace) c.in_ok-put.ensures refl c.requires.home not

pub returns-clause-judged : goal.returns-clause-judged
returns-clause-judged c = inr (given-has c.args.found.now.unsupported c.put.new.self (way_of c.args.m c.args.name.now None c.args.namespace) c.in_ok-put.ensures)

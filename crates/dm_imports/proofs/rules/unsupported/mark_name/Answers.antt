use Rattle.std.proofs.Common.{◌∙◌, ap, not, sym}
use Rattle.std.proofs.lemmas.Bool.{and_parts}
use Rattle.dm_base.specs.PerNs.{is_empty}
use Rattle.dm_maps.specs.World.{scope_of}
use Rattle.dm_scope.specs.Scope.{bound_in}
use Rattle.dm_imports.specs.Tables.{MapTables, of_tables}
use Rattle.dm_imports.proofs.MarkLemmas.{marks-none, marks-then, not-true, three-judged}
use Rattle.dm_imports.proofs.UnboundLemmas.{bound-listed}
use Rattle.dm_imports.proofs.rules.unsupported.mark_name.Goals as goal

pub returns-then-is_passed_over-clause-marks : goal.returns-then-is_passed_over-clause-marks
returns-then-is_passed_over-clause-marks c = marks-none (of_tables c.args.maps.now) c.args.found.now

pub returns-then-is_passed_over-clause-judged : goal.returns-then-is_passed_over-clause-judged
returns-then-is_passed_over-clause-judged c =
    let here = ap (λ (t : MapTables). bound_in (scope_of t.world c.args.m) c.args.name.now) c.maps.view_is in
    let parts = and_parts c.args.are_bound_judged (not (is_empty c.bound_in-items.result)) (sym c.is_passed_over.ensures ∙ c.if-is_passed_over.true) in
    let some = sym (ap is_empty (c.bound_in-items.ensures.value ∙ here)) ∙ not-true (is_empty c.bound_in-items.result) parts.1 in
    c.requires.bound parts.0 c.args.m c.requires.home c.args.name.now (bound-listed (scope_of c.args.maps.now.world c.args.m) c.args.name.now some)

pub returns-clause-marks : goal.returns-clause-marks
returns-clause-marks c =
    let d = of_tables c.args.maps.now in
    let k = c.args.found.now in
    let one = c.mark_in.new.found in
    let two = c.mark_in-2.new.found in
    let three = c.mark_in-3.new.found in
    marks-then d k two three (marks-then d k one two c.in_ok-mark_in.ensures.marks c.in_ok-mark_in-2.ensures.marks) c.in_ok-mark_in-3.ensures.marks

pub returns-clause-judged : goal.returns-clause-judged
returns-clause-judged c =
    let one = c.mark_in.new.found in
    let two = c.mark_in-2.new.found in
    let three = c.mark_in-3.new.found in
    three-judged (of_tables c.args.maps.now) one two three c.args.m c.args.name.now c.in_ok-mark_in-2.ensures.marks c.in_ok-mark_in-3.ensures.marks
    c.in_ok-mark_in.ensures.judged c.in_ok-mark_in-2.ensures.judged c.in_ok-mark_in-3.ensures.judged

use Rattle.std.proofs.Common.{◌≡◌, ◌<◌, ◌+◌, ◌-◌, arith, length, ap, subst, sym, ◌∙◌, slice_index}
use Rattle.crate_items.specs.CrateGraphs.{row, rows}
use Rattle.crate_items.specs.OrderSearch.{GoesOn, left_of}
use Rattle.crate_items.proofs.StepLemmas.{goes-on-closed, goes-on-looked, last-known}
use Rattle.crate_items.proofs.files.crate_order.step.Goals as goal

pub returns-then-left-eq1-clause-ok : goal.returns-then-left-eq1-clause-ok
returns-then-left-eq1-clause-ok c =
    let one : left_of c.args.search.now c.args.last.0 ≡ 1 = omega (arith, c.left-left.ensures, c.if-left-eq1.true) in
    subst (GoesOn (rows c.args.crates.now) c.args.search.now) (sym c.in_ok-finished.ensures)
    (goes-on-closed (rows c.args.crates.now) c.args.search.now c.args.last.0 c.requires.kept c.requires.inside c.requires.last one)

pub returns-clause-ok : goal.returns-clause-ok
returns-clause-ok c =
    let rs = rows c.args.crates.now in
    let known = last-known rs c.args.search.now c.args.last.0 c.requires.kept c.requires.last in
    let two : 1 < left_of c.args.search.now c.args.last.0 = omega (arith, c.left-left.ensures, c.if-left-eq1.false, known.1) in
    let next = c.dependency-next.ensures ∙ ap (λ n. slice_index (row rs c.args.last.0) (length (row rs c.args.last.0) + 1 - n)) c.left-left.ensures in
    subst (GoesOn rs c.args.search.now) (sym c.look.ensures)
    (goes-on-looked rs c.args.search.now c.meet.new.search c.args.last.0 c.dependency-next.result.0 known.0 two next c.in_ok-meet.ensures.ok)

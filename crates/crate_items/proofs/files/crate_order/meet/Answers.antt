use Rattle.std.proofs.Common.{◌<◌, arith, subst, sym}
use Rattle.crate_items.specs.CrateGraphs.{IsCircle, rows}
use Rattle.crate_items.specs.OrderSearch.{Meets, left_of}
use Rattle.crate_items.proofs.StepLemmas.{circle-met, meets-opened}
use Rattle.crate_items.proofs.files.crate_order.meet.Goals as goal

pub path_from-requires : goal.path_from-requires
path_from-requires c =
    let on = c.requires.kept.placed c.args.next.0 c.in-Some.place (sym c.in-Some.ensures) in omega (arith, on.0)

pub returns-in_ok-circle-in-Some-clause-circle : goal.returns-in_ok-circle-in-Some-clause-circle
returns-in_ok-circle-in-Some-clause-circle c =
    subst (IsCircle (rows c.args.crates.now)) (sym c.in_ok-circle-in-Some.ensures)
    (circle-met (rows c.args.crates.now) c.args.search.now c.args.last.0 c.args.next.0 c.in-Some.place c.requires.kept c.requires.last (sym c.in-Some.ensures) c.requires.depends)

pub returns-in_ok-entered-in-None-clause-ok : goal.returns-in_ok-entered-in-None-clause-ok
returns-in_ok-entered-in-None-clause-ok c =
    let undone : 0 < left_of c.args.search.now c.args.next.0 = omega (arith, c.left.ensures, c.if-left-eq0.false) in
    subst (λ s. Meets (rows c.args.crates.now) c.args.search.now s c.args.last.0 c.args.next.0) (sym c.in_ok-entered-in-None.ensures)
    (meets-opened (rows c.args.crates.now) c.args.search.now c.args.last.0 c.args.next.0 c.requires.kept c.requires.last c.requires.known undone (sym c.in-None.ensures) c.requires.depends)

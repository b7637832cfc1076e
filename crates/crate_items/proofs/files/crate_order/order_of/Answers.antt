use Rattle.std.proofs.Common.{arith, ap, subst, sym, length}
use Rattle.std.proofs.lemmas.List.{length-map}
use Rattle.crate_items.specs.CrateGraphs.{IsOrder, needs, rows}
use Rattle.crate_items.specs.OrderSearch.{IsSearch}
use Rattle.crate_items.proofs.StepLemmas.{AreInside-rows, IsOrder-search, IsSearch-started}
use Rattle.crate_items.proofs.files.crate_order.order_of.Goals as goal

pub loop-number-init : goal.loop-number-init
loop-number-init c =
    let begins = c.in_ok-search.ensures in
    record {
      kept = subst (IsSearch (rows c.args.crates.now)) (sym begins) (IsSearch-started (rows c.args.crates.now));
      idle = ap (λ s. length s.path) begins;
      before = λ a none. absurd (omega (arith, none));
    }

pub visit-requires-clause-inside : goal.visit-requires-clause-inside
visit-requires-clause-inside c = AreInside-rows c.args.crates.now c.requires

pub returns-clause-ok : goal.returns-clause-ok
returns-clause-ok c =
    let keeps = c.loop-number.invariant in
    subst (IsOrder (rows c.args.crates.now)) (sym c.into_order.ensures)
    (IsOrder-search (rows c.args.crates.now) c.loop-number.search keeps.kept
    (λ a within. keeps.before a (omega (arith, within, c.loop-number-test.false, length-map c.args.crates.now needs))))

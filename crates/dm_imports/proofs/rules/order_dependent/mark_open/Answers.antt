use Rattle.std.proofs.Common.{◌≡◌, subst, sym, take, true}
use Rattle.std.proofs.lemmas.List.{take_all}
use Rattle.std.proofs.lemmas.List.Elements.{All-get_or, All-more, All-weaker}
use Rattle.std.specs.List.{All}
use Rattle.dm_imports.specs.Grounding.{Way, has_slot, slots_of}
use Rattle.dm_imports.specs.Marking.{IsUngroundedWay}
use Rattle.dm_imports.specs.Tables.{of_tables}
use Rattle.dm_imports.proofs.MarkLemmas.{dependent-slot}
use Rattle.dm_imports.proofs.WayLemmas.{IsGiven, given-has, given-more}
use Rattle.dm_imports.proofs.rules.order_dependent.mark_open.Goals as goal

pub loop-way-preserved : goal.loop-way-preserved
loop-way-preserved c =
    let d = of_tables c.args.maps.now in
    let ways = c.args.left.now in
    let w = c.way-item.result in
    let k = c.loop-way.found in
    let l = c.put.new.self in
    let is = subst (λ (v : Way). IsGiven k l v) c.way.view_is c.in_ok-put.ensures in
    let P : Way → Type 0 = λ v. has_slot (slots_of l) v ≡ true in
    let more = given-more k l w is in
    let not = subst (IsUngroundedWay d) (sym c.way-item.is) (All-get_or (IsUngroundedWay d) ways c.loop-way.way-index w c.loop-way-test.true c.requires) in
    let before = All-weaker (λ (v : Way). has_slot (slots_of k) v ≡ true) P (λ v h. more v.home v.name v.namespace h) (take c.loop-way.way-index ways) c.loop-way.invariant.marked in
    record {
      more = λ m n s h. more m n s (c.loop-way.invariant.more m n s h);
      marked = All-more P ways c.loop-way.way-index w c.loop-way-test.true before (subst P c.way-item.is (given-has k l w is));
      just = λ all. dependent-slot d k l w is not (c.loop-way.invariant.just all);
    }

pub returns-clause-marked : goal.returns-clause-marked
returns-clause-marked c =
    subst (All (λ (w : Way). has_slot (slots_of c.loop-way.found) w ≡ true)) (take_all c.loop-way.way-index c.args.left.now c.loop-way-test.false) c.loop-way.invariant.marked

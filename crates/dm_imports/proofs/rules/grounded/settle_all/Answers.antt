use native.Mathlib.Omega.{arith}
use Rattle.std.proofs.Common.{◌≡◌, ◌∙◌, ◌+◌, ◌++◌, List, [], ◌∷◌, Bool, ap, length, subst, sym}
use Rattle.std.proofs.lemmas.List.{length_push}
use Rattle.std.proofs.lemmas.List.Elements.{All-push}
use Rattle.std.specs.List.{All}
use Rattle.dm_imports.specs.Grounding.{AreCovered, IsOpen, IsWay, Way, offers_in, slots_of}
use Rattle.dm_imports.specs.Slots.{Slots}
use Rattle.dm_imports.specs.Tables.{of_tables}
use Rattle.dm_imports.proofs.PassLemmas.{popped-ways}
use Rattle.dm_imports.proofs.WayLemmas.{covered-done, covered-open}
use Rattle.dm_imports.proofs.rules.grounded.settle_all.Goals as goal

pub loop-way-preserved-in-Continue-branch-2 : goal.loop-way-preserved-in-Continue-branch-2
loop-way-preserved-in-Continue-branch-2 c =
    let d = of_tables c.args.maps.now in
    let o = offers_in c.args.offered.now in
    let old = c.loop-way.known in
    let init = c.pop.new.self.items in
    let left = c.loop-way.left.items in
    let way = c.in-Some.way in
    let whole = c.in-Some.ensures.items in
    let ways = popped-ways (IsWay d) c.loop-way.waiting.items init way whole c.loop-way.invariant.waiting in
    let before = ap length whole ∙ length_push init way in
    let pushed = c.in_ok-push.ensures.items in
    let after = ap length pushed ∙ length_push left way in
    let same = c.in_ok-settle.ensures.same c.if-branch.true in
    let stuck = c.in_ok-settle.ensures.stuck c.if-branch.true in
    record {
      waiting = ways.0;
      left = subst (All (IsWay d)) (sym pushed) (All-push (IsWay d) left way c.loop-way.invariant.left ways.1);
      safe = c.in_ok-settle.ensures.safe c.requires.offers c.loop-way.invariant.safe;
      covered = λ all.
          subst (λ (ws : List Way). AreCovered d (slots_of c.settle.new.known) (init ++ ws)) (sym pushed)
          (subst (λ (k : Slots Bool). AreCovered d (slots_of k) (init ++ (left ++ way ∷ []))) (sym same)
          (covered-open d (slots_of old) (slots_of old) init left way (subst (λ (ws : List Way). AreCovered d (slots_of old) (ws ++ left)) whole (c.loop-way.invariant.covered all))));
      fewer = omega (arith, c.loop-way.invariant.fewer, before, after);
      same = λ e. same ∙ c.loop-way.invariant.same (omega (arith, e, before, after));
      stuck = λ e.
          let whole_so_far : length c.loop-way.waiting.items + length left ≡ length c.args.ways.items = omega (arith, e, before, after) in
          subst (All (IsOpen d (slots_of c.args.known.now) o)) (sym pushed)
          (All-push (IsOpen d (slots_of c.args.known.now) o) left way (c.loop-way.invariant.stuck whole_so_far)
          (subst (λ (k : Slots Bool). IsOpen d (slots_of k) o way) (c.loop-way.invariant.same whole_so_far) stuck));
    }

pub loop-way-preserved : goal.loop-way-preserved
loop-way-preserved c =
    let d = of_tables c.args.maps.now in
    let old = c.loop-way.known in
    let init = c.pop.new.self.items in
    let left = c.loop-way.left.items in
    let way = c.in-Some.way in
    let whole = c.in-Some.ensures.items in
    let before = ap length whole ∙ length_push init way in
    record {
      waiting = (popped-ways (IsWay d) c.loop-way.waiting.items init way whole c.loop-way.invariant.waiting).0;
      left = c.loop-way.invariant.left;
      safe = c.in_ok-settle.ensures.safe c.requires.offers c.loop-way.invariant.safe;
      covered = λ all.
          covered-done d (slots_of old) (slots_of c.settle.new.known) init left way c.in_ok-settle.ensures.more (c.in_ok-settle.ensures.done c.if-branch.false)
          (subst (λ (ws : List Way). AreCovered d (slots_of old) (ws ++ left)) whole (c.loop-way.invariant.covered all));
      fewer = omega (arith, c.loop-way.invariant.fewer, before);
      same = λ e. absurd (omega (arith, c.loop-way.invariant.fewer, before, e));
      stuck = λ e. absurd (omega (arith, c.loop-way.invariant.fewer, before, e));
    }

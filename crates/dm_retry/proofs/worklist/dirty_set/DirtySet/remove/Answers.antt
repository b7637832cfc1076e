use Rattle.std.proofs.Common.{◌∙◌, ◌≡◌, ◌≢◌, ◌<◌, ◌/◌, ap, not, sym, length, false, arith, refl}
use Rattle.std.proofs.lemmas.List.{get_or_default}
use Rattle.std.proofs.lemmas.Bool.{eq-eqb, ne_eqb}
use Rattle.dm_retry.specs.Bits.{has, word}
use Rattle.dm_retry.proofs.BitLemmas.{summary-after, at_place, elsewhere}
use Rattle.dm_retry.proofs.worklist.dirty_set.DirtySet.remove.Goals as goal

pub invariant_of-self : goal.invariant_of-self
invariant_of-self c =
    let top = c.remove-then-index-eq0.ensures in
    let words = c.remove.ensures in
    let q = c.args.k / 64 in
    let within : q < length c.remove.new.words.items = omega (arith, ap length c.self.view_is) in
    let zero : word c.remove.new.words.items q ≡ 0 = get_or_default c.remove.new.words.items q 0 c.index.result.now within ∙ sym c.index.ensures ∙ c.if-index-eq0.true in
    record {
      summary = summary-after c.self.inside.top.items c.self.inside.words.items c.remove-then-index-eq0.new.words.items c.remove.new.words.items q c.self.invariant.summary
          (elsewhere (has c.remove-then-index-eq0.new.words.items) (has c.self.inside.top.items) q false top.has) words.others
          (at_place (has c.remove-then-index-eq0.new.words.items) (has c.self.inside.top.items) q false top.has ∙ sym (ap not (eq-eqb (word c.remove.new.words.items q) 0 zero)));
      room = λ j h. let r = c.self.invariant.room j (omega arith) in omega arith;
      few = (omega arith, omega arith);
    }

pub invariant_of-self-else-index-eq0 : goal.invariant_of-self-else-index-eq0
invariant_of-self-else-index-eq0 c =
    let words = c.remove.ensures in
    let q = c.args.k / 64 in
    let within : q < length c.remove.new.words.items = omega (arith, ap length c.self.view_is) in
    let new : word c.remove.new.words.items q ≢ 0 = λ z. c.if-index-eq0.false (c.index.ensures ∙ get_or_default c.remove.new.words.items q c.index.result.now 0 within ∙ z) in
    let old : word c.self.inside.words.items q ≢ 0 = λ z. new (words.empty z) in
    record {
      summary = summary-after c.self.inside.top.items c.self.inside.words.items c.self.inside.top.items c.remove.new.words.items q c.self.invariant.summary
          (λ j h. refl) words.others
          (c.self.invariant.summary q ∙ ap not (ne_eqb (word c.self.inside.words.items q) 0 old ∙ sym (ne_eqb (word c.remove.new.words.items q) 0 new)));
      room = λ j h. c.self.invariant.room j (omega arith);
      few = (omega arith, omega arith);
    }

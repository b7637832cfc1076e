use Rattle.std.proofs.Common.{◌∙◌, ◌/◌, ap, not, sym, true, arith}
use Rattle.dm_retry.specs.Bits.{has}
use Rattle.dm_retry.proofs.BitLemmas.{summary-after, at_place, elsewhere}
use Rattle.dm_retry.proofs.worklist.dirty_set.DirtySet.insert.Goals as goal

pub invariant_of-self : goal.invariant_of-self
invariant_of-self c =
    let top = c.insert-2.ensures in
    let words = c.insert.ensures in
    record {
      summary = summary-after c.self.inside.top.items c.self.inside.words.items c.insert-2.new.words.items c.insert.new.words.items (c.args.k / 64) c.self.invariant.summary
          (elsewhere (has c.insert-2.new.words.items) (has c.self.inside.top.items) (c.args.k / 64) true top.has) words.others
          (at_place (has c.insert-2.new.words.items) (has c.self.inside.top.items) (c.args.k / 64) true top.has ∙ sym (ap not words.filled));
      room = λ j h. let r = c.self.invariant.room j (omega arith) in omega arith;
      few = (omega arith, omega arith);
    }

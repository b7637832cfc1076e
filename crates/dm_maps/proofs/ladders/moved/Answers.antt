use Rattle.std.proofs.Common.{◌+◌, ◌/◌, sym, subst₂, ℕ}
use Rattle.dm_maps.proofs.MoveLemmas.{IsOnTheWay, moves-odd, moves-even}
use Rattle.dm_maps.proofs.ladders.moved.Goals as goal
use Rattle.dm_maps.proofs.ladders.moved.Goals.{then-rest-eq1, else-rest-eq1}

pub loop-k-preserved : goal.loop-k-preserved
loop-k-preserved c =
    let ls = c.args.ladders.now in
    let P : ℕ → ℕ → Type 0 = λ at moves. IsOnTheWay ls c.args.m c.args.deeper at (c.loop-k.rest / 2) moves (c.loop-k.k + 1) in
    elim c.if-rest-eq1.branch [
      | then-rest-eq1 w ↦
          let next = w.entry_at-at.ensures in
          subst₂ P (sym w.at-is) (sym w.moves-is)
          (moves-odd ls c.requires.lawful c.args.m c.args.deeper c.loop-k.at c.loop-k.rest c.loop-k.moves c.loop-k.k w.entry_at-at.result c.loop-k-test.true w.if-rest-eq1.true next.value next.known c.loop-k.invariant)
      | else-rest-eq1 w ↦
          subst₂ P (sym w.at-is) (sym w.moves-is)
          (moves-even ls c.args.m c.args.deeper c.loop-k.at c.loop-k.rest c.loop-k.moves c.loop-k.k w.if-rest-eq1.false c.loop-k.invariant)
    ]

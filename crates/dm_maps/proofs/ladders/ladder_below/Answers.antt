use Rattle.std.proofs.Common.{◌≡◌, ◌+◌, suc, subst, arith}
use Rattle.dm_maps.specs.JumpPointers.{depth_at}
use Rattle.dm_maps.proofs.FillLemmas.{IsFilled, IsFilled-first, filled-ladder}
use Rattle.dm_maps.proofs.RowLemmas.{shallow}
use Rattle.dm_maps.proofs.ladders.ladder_below.Goals as goal

pub loop-k-init : goal.loop-k-init
loop-k-init c = IsFilled-first c.args.ladders.now c.args.c c.requires.known

pub overflow_add-result : goal.overflow_add-result
overflow_add-result c =
    let less = shallow c.args.ladders.now c.requires.lawful (record { 0 = c.args.c }) c.requires.known in
    let is = c.depth_at.ensures in
    let known = c.requires.known in
    let room = c.requires.room in
    omega arith

pub returns-clause-lawful : goal.returns-clause-lawful
returns-clause-lawful c =
    let ls = c.args.ladders.now in
    let less = shallow ls c.requires.lawful (record { 0 = c.args.c }) c.requires.known in
    let is = c.depth_at.ensures in
    let known = c.requires.known in
    let deeper : c.depth_at.result + 1 ≡ suc (depth_at ls c.args.c) = omega arith in
    let last = c.loop-k-test.false in
    filled-ladder ls c.args.c (c.depth_at.result + 1) c.loop-k.entries deeper (omega arith) (subst (IsFilled ls c.args.c c.loop-k.entries) (omega arith) c.loop-k.invariant)

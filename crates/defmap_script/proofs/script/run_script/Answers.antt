use Rattle.std.proofs.Common.{rules, arith, [], ◌∷◌, ◌≡◌, length, sym, ap, append-nil}
use Rattle.defmap_script.specs.Engine.{fresh}
use Rattle.defmap_script.specs.Runs.{lines, lines_left}
use Rattle.defmap_script.proofs.RunLemmas.{Printed, goes_on-begin, printed-line, ran-end, ran-refused, length-lines}
use Rattle.defmap_script.proofs.script.run_script.Goals as goal

pub loop-line-init : goal.loop-line-init
loop-line-init c =
    let all : lines_left c.into_iter-line-iterator.result ≡ lines c.args.input.now = search rules
    in let few = length-lines c.args.input.now
    in let same = ap length all
    in (([], sym (append-nil c.args.out.now.items), rw (c.new-engine.ensures, all) (goes_on-begin fresh 1 (lines c.args.input.now))), omega arith, tt, tt)

pub returns-in-Err : goal.returns-in-Err
returns-in-Err c =
    let step : lines_left c.loop-line.line-iterator ≡ c.in-Some.line.now ∷ lines_left c.next.new.self = search rules
    in let so_far : Printed c.args.out.now.items c.loop-line.out.items fresh (lines c.args.input.now) c.loop-line.engine c.loop-line.number (c.in-Some.line.now ∷ lines_left c.next.new.self) = rw (← step) c.loop-line.invariant.0
    in rw c.refuse.ensures.end
    (ran-refused c.args.out.now.items c.loop-line.out.items c.refuse.new.out.items c.in-Some.line.now (lines c.args.input.now) (lines_left c.next.new.self)
    fresh c.loop-line.engine c.loop-line.number c.in-Err.fault so_far c.in-Err.ensures.0 (rw c.in-Err.ensures.1 at c.refuse.ensures.line))

pub loop-line-preserved : goal.loop-line-preserved
loop-line-preserved c =
    let step : lines_left c.loop-line.line-iterator ≡ c.in-Some.line.now ∷ lines_left c.next.new.self = search rules
    in let so_far : Printed c.args.out.now.items c.loop-line.out.items fresh (lines c.args.input.now) c.loop-line.engine c.loop-line.number (c.in-Some.line.now ∷ lines_left c.next.new.self) = rw (← step) c.loop-line.invariant.0
    in let one_less = ap length step
    in (
      printed-line c.args.out.now.items c.loop-line.out.items c.run_line.new.out.items c.in-Some.line.now c.in_default.ensures.0 (lines c.args.input.now) (lines_left c.next.new.self)
          fresh c.loop-line.engine c.run_line.new.engine c.loop-line.number so_far c.in_default.ensures.1 c.in_default.ensures.2,
      omega (arith, c.loop-line.invariant.1),
      tt,
      tt,
    )

pub returns : goal.returns
returns c =
    let ended : lines_left c.loop-line.line-iterator ≡ [] = search rules
    in ran-end c.args.out.now.items c.loop-line.out.items (lines c.args.input.now) (lines_left c.loop-line.line-iterator) fresh c.loop-line.engine c.loop-line.number ended c.loop-line.invariant.0

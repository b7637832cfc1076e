use native.Mathlib.Omega.{arith}
use Rattle.std.proofs.Common.{◌≡◌, length, nat_eq, true}
use Rattle.std.proofs.lemmas.Bool.{eqb-true}
use Rattle.dm_imports.specs.Grounding.{slots_of}
use Rattle.dm_imports.specs.Tables.{of_tables}
use Rattle.dm_imports.proofs.PassLemmas.{covered-ungrounded, none-ungrounded, open-ungrounded}
use Rattle.dm_imports.proofs.rules.grounded.settle_rest.Goals as goal

pub returns-then-len-before-clause-each : goal.returns-then-len-before-clause-each
returns-then-len-before-clause-each c =
    let d = of_tables c.args.maps.now in
    let left = c.in_ok-left.left in
    let all : length left.items ≡ length c.passes.waiting.items = omega (arith, c.if-len-before.true, c.len.ensures, c.len-before.ensures, left.ok.0, c.passes.waiting.ok.0) in
    open-ungrounded d (slots_of c.pass.new.known) left.items (c.in_ok-left.ensures.covered c.passes.invariant.covered) (c.in_ok-left.ensures.stuck all) c.in_ok-left.ensures.ways

pub returns-then-len-before-clause-all : goal.returns-then-len-before-clause-all
returns-then-len-before-clause-all c =
    covered-ungrounded (of_tables c.args.maps.now) (slots_of c.pass.new.known) c.in_ok-left.left.items (c.in_ok-left.ensures.covered c.passes.invariant.covered) c.in_ok-left.ensures.safe

pub returns-clause-each : goal.returns-clause-each
returns-clause-each c =
    let none : nat_eq c.passes.waiting.len 0 ≡ true = cc in
    none-ungrounded (of_tables c.args.maps.now) c.passes.waiting.items (omega (arith, eqb-true c.passes.waiting.len 0 none, c.passes.waiting.ok.0))

pub returns-clause-all : goal.returns-clause-all
returns-clause-all c = covered-ungrounded (of_tables c.args.maps.now) (slots_of c.passes.known) c.passes.waiting.items c.passes.invariant.covered c.passes.invariant.safe

use Rattle.std.proofs.Common.{◌≡◌, Some, None, [], ◌∷◌, rules, arith, ap, length}
use Rattle.defmap_script.specs.Runs.{lines, lines_left}
use Rattle.defmap_script.specs.Words.{cut}
use Rattle.defmap_script.proofs.LineLemmas.{split-some, split-none}
use Rattle.defmap_script.proofs.script.LinesIterator.next.Goals as goal

pub returns-in-Some-clause-steps : goal.returns-in-Some-clause-steps
returns-in-Some-clause-steps c =
    let at : cut 10 c.in_ok-rest.rest.now ≡ Some (c.in-Some.line.now, c.in-Some.behind.now) = search rules
    in let split = split-some 10 c.in_ok-rest.rest.now c.in-Some.line.now c.in-Some.behind.now at
    in search rules

pub returns-in-Some-clause-goes : goal.returns-in-Some-clause-goes
returns-in-Some-clause-goes c =
    let steps : lines_left c.args.self.now ≡ c.in-Some.line.now ∷ lines c.in-Some.behind.now = returns-in-Some-clause-steps c
    in let one_less = ap length steps
    in search (rules, arith)

pub returns-in-None-clause-steps : goal.returns-in-None-clause-steps
returns-in-None-clause-steps c =
    let at : cut 10 c.in_ok-rest.rest.now ≡ None = search rules
    in let split = split-none 10 c.in_ok-rest.rest.now at
    in search rules

pub returns-in-None-clause-goes : goal.returns-in-None-clause-goes
returns-in-None-clause-goes c =
    let steps : lines_left c.args.self.now ≡ c.in_ok-rest.rest.now ∷ [] = returns-in-None-clause-steps c
    in let one = ap length steps
    in search (rules, arith)

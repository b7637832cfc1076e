use Rattle.std.proofs.Common.{List, sym, subst}
use Rattle.macro_rules.specs.Runs.{IsParsed}
use Rattle.macro_rules.specs.Walks.{walk}
use Rattle.macro_rules.specs.declared.matching.Outcome.{Outcome}
use Rattle.macro_rules.specs.declared.matching.Thread.{Thread}
use Rattle.macro_rules.proofs.Reached.{walk_parsed}
use Rattle.macro_rules.proofs.walk.match_tokens.Goals as goal

pub returns-clause-parsed : goal.returns-clause-parsed
returns-clause-parsed c =
    let found = walk c.args.bytes.now c.args.rows.now c.args.tokens.now c.args.steps c.args.turns in
    subst (λ (l : List Thread). IsParsed c.args.bytes.now c.args.rows.now c.args.tokens.now l c.in_ok-walk.walk.outcome) (sym c.in_ok-walk.ensures.log)
    (subst (λ (o : Outcome). IsParsed c.args.bytes.now c.args.rows.now c.args.tokens.now found.log o) (sym c.in_ok-walk.ensures.outcome)
    (walk_parsed c.args.bytes.now c.args.rows.now c.args.tokens.now c.args.steps c.args.turns))

use Rattle.std.proofs.Common.{rules}
use Rattle.defmap_script.proofs.Refusals.{refused-push}
use Rattle.defmap_script.proofs.engine.push_within.Goals as goal

pub returns-in_err-name : goal.returns-in_err-name
returns-in_err-name c =
    let p = c.args.pushing in
    refused-push c.args.world.now c.args.globs.now p.«module» p.name.now p.res p.import c.from_residual.result (search rules) c.from_residual.ensures.0 c.from_residual.ensures.1

pub returns-in_err-written : goal.returns-in_err-written
returns-in_err-written c = search (rules, refused-push)

use Rattle.std.proofs.Common.{rules}
use Rattle.defmap_script.proofs.Refusals.{refused-add, answered-steps, dumped-steps}
use Rattle.defmap_script.proofs.engine.Engine.run.Goals as goal

pub returns-in_err-add-in-Add : goal.returns-in_err-add-in-Add
returns-in_err-add-in-Add c =
    let step = refused-add c.in-Building.builder c.add.new.builder c.self.inside.globs _ c.in_err-add-in-Add.field-0.0 c.from_residual.result c.in_err-add-in-Add.ensures c.from_residual.ensures.0 c.from_residual.ensures.1 in search rules

pub returns-in-Path : goal.returns-in-Path
returns-in-Path c = search (rules, answered-steps)

pub returns-in-Dump : goal.returns-in-Dump
returns-in-Dump c = search (rules, dumped-steps)

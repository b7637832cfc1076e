use Rattle.std.proofs.Common.{rules}
use Rattle.defmap_script.proofs.Refusals.{refused-answer}
use Rattle.defmap_script.proofs.engine.answer.Goals as goal

pub returns-in_err-names : goal.returns-in_err-names
returns-in_err-names c = refused-answer _ _ c.in-Some.map.now c.in-Some.local.now c.from_residual.result (search rules) c.from_residual.ensures.0 c.from_residual.ensures.1

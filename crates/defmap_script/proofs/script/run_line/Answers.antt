use Rattle.std.proofs.Common.{rules}
use Rattle.defmap_script.proofs.Refusals.{refused-line, unprinted-line}
use Rattle.defmap_script.proofs.script.run_line.Goals as goal

pub returns-in_err-reply : goal.returns-in_err-reply
returns-in_err-reply c = search (rules, refused-line)

pub returns-in_err-print : goal.returns-in_err-print
returns-in_err-print c = search (rules, unprinted-line)

use Rattle.std.proofs.Common.{◌∙◌, ap, take, length}
use Rattle.std.proofs.Math.Seq.{take-append_seam}
use Rattle.defmap_script.proofs.read.read_all.Goals as goal

pub returns-in-Err-clause-err : goal.returns-in-Err-clause-err
returns-in-Err-clause-err g c =
    let before = c.args.input.now.items in
    ap (take (length before)) c.loop.invariant.1 ∙ take-append_seam before c.loop.invariant.0

pub returns-clause-err : goal.returns-clause-err
returns-clause-err g c =
    let before = c.args.input.now.items in
    ap (take (length before)) c.loop.invariant.1 ∙ take-append_seam before c.loop.invariant.0

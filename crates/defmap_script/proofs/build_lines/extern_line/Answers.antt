use Rattle.std.proofs.Common.{◌∙◌, ap, sym}
use Rattle.defmap_script.specs.BuildLines.{extern_line, extern_parts}
use Rattle.defmap_script.proofs.LineLemmas.{then}
use Rattle.defmap_script.proofs.build_lines.extern_line.Goals as goal

pub returns : goal.returns
returns c =
    let words = then c.in_ok-next.ensures.steps (then c.in_ok-name.ensures.steps (then c.in_ok-next-2.ensures.steps (then c.in_ok-next-3.ensures.steps c.in_ok-end.ensures))) in
    (λ i. extern_parts c.in_ok-name.name.now (c.in_ok-number.ensures i) (c.in_ok-number-2.ensures i) (c.in_ok-by.ensures i)) ∙ ap extern_line (sym words)

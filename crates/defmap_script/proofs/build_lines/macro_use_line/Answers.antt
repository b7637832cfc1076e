use Rattle.std.proofs.Common.{◌∙◌, ap, sym}
use Rattle.defmap_script.specs.BuildLines.{macro_use_line, macro_use_parts}
use Rattle.defmap_script.proofs.LineLemmas.{then}
use Rattle.defmap_script.proofs.build_lines.macro_use_line.Goals as goal

pub returns : goal.returns
returns c =
    let words = then c.in_ok-next.ensures.steps (then c.in_ok-name.ensures.steps (then c.in_ok-next-2.ensures.steps (then c.in_ok-next-3.ensures.steps c.in_ok-end.ensures))) in
    (λ i. macro_use_parts c.in_ok-name.name.now (c.in_ok-map.ensures i) (c.in_ok-id.ensures i) (c.in_ok-by.ensures i)) ∙ ap macro_use_line (sym words)

use Rattle.std.proofs.Common.{◌∙◌, ap, sym}
use Rattle.defmap_script.specs.Lines.{import_line, import_parts}
use Rattle.defmap_script.proofs.LineLemmas.{then}
use Rattle.defmap_script.proofs.lines.import_line.Goals as goal

pub returns : goal.returns
returns c =
    let words = then c.in_ok-next.ensures.steps (then c.in_ok-next-2.ensures.steps (then c.in_ok-next-3.ensures.steps c.in_ok-end.ensures)) in
    (λ i. import_parts (c.in_ok-number.ensures i) (c.in_ok-number-2.ensures i) (c.in_ok-number-3.ensures i)) ∙ ap import_line (sym words)

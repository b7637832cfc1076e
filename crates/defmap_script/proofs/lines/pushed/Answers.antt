use Rattle.std.proofs.Common.{◌∙◌, ap, sym}
use Rattle.defmap_script.specs.Lines.{pushed, pushed_parts}
use Rattle.defmap_script.proofs.LineLemmas.{then}
use Rattle.defmap_script.proofs.lines.pushed.Goals as goal

pub returns : goal.returns
returns c =
    let words = then c.in_ok-next.ensures.steps (then c.in_ok-next-2.ensures.steps (then c.in_ok-next-3.ensures.steps (then c.in_ok-next-4.ensures.steps c.in_ok-end.ensures))) in
    (λ i. pushed_parts (c.in_ok-types.ensures i) (c.in_ok-values.ensures i) (c.in_ok-macros.ensures i) (c.in_ok-import.ensures i)) ∙ ap pushed (sym words)

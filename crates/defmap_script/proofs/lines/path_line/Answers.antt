use Rattle.std.proofs.Common.{◌∙◌, ap, sym}
use Rattle.defmap_script.specs.Lines.{path_line, path_parts, words_left}
use Rattle.defmap_script.proofs.LineLemmas.{then}
use Rattle.defmap_script.proofs.lines.path_line.Goals as goal

pub returns : goal.returns
returns c =
    let reach = c.args.reach in
    let words = then c.in_ok-next.ensures.steps (then c.in_ok-next-2.ensures.steps (then c.in_ok-next-3.ensures.steps (then c.in_ok-next-4.ensures.steps c.in_ok-next-5.ensures.steps))) in
    (λ i. path_parts reach (c.in_ok-number.ensures i) (c.in_ok-resolve_mode.ensures i) (c.in_ok-shadow_mode.ensures i) (c.in_ok-expected_macro.ensures i) (c.in_ok-path_kind.ensures i) (words_left c.next-5.new.self)) ∙ ap (path_line reach) (sym words)

use Rattle.std.proofs.Common.{◌≡◌, Some, None, rules, sym, eqb, ◌+◌}
use Rattle.std.specs.List.{position}
use Rattle.std.proofs.lemmas.List.{take_rest}
use Rattle.defmap_script.proofs.WordLemmas.{cut-absent, cut-found}
use Rattle.defmap_script.proofs.script.cut_at_line_feed.Goals as goal

pub returns-in_err-at : goal.returns-in_err-at
returns-in_err-at c =
    let none : position (λ b. eqb b 10) c.args.bytes.now ≡ None = search rules
    in rw (cut-absent 10 c.args.bytes.now none) (search rules)

pub returns : goal.returns
returns c =
    let at : position (λ b. eqb b 10) c.args.bytes.now ≡ Some c.in_ok-at.at = search rules
    in rw (take_rest c.args.bytes.now (c.in_ok-at.at + 1)) (sym (cut-found 10 c.args.bytes.now c.in_ok-at.at at))

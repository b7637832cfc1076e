use Rattle.std.proofs.Common.{◌+◌, ap, max, subst, sym, ◌∙◌}
use Rattle.std.specs.List.Sorted.{IsNonDecreasing}
use Rattle.crate_items.proofs.LineLemmas.{count-before-in, starts-rise}
use Rattle.crate_items.proofs.files.line_index.line_col_by.Goals as goal

pub count_through-line-requires : goal.count_through-line-requires
count_through-line-requires c = subst IsNonDecreasing (sym c.requires.starts) (starts-rise c.args.text.now)

pub column-col-requires-clause-line : goal.column-col-requires-clause-line
column-col-requires-clause-line c =
    let found = c.count_through-line.ensures in
    count-before-in c.args.text.now c.args.starts.now c.args.offset c.count_through-line.result c.requires.starts found.bound found.through found.past

pub returns : goal.returns
returns c =
    let found = c.count_through-line.ensures in
    let line = sym (count-before-in c.args.text.now c.args.starts.now c.args.offset c.count_through-line.result c.requires.starts found.bound found.through found.past) in
    let col = c.max.ensures ∙ ap (λ n. max n 1) c.column-col.ensures in
    λ i. record { line = line i + 1; col = col i }

use Rattle.std.proofs.Common.{◌≡◌, ◌<◌, ◌+◌, ◌-◌, arith, ap, subst, ◌∙◌, length, take, drop}
use Rattle.std.specs.List.{count_by, slice_index}
use Rattle.crate_items.specs.LineIndexes.{begins_char, first_column, is_newline, starts_from}
use Rattle.crate_items.proofs.LineLemmas.{column-at, columns}
use Rattle.crate_items.proofs.files.line_index.column.Goals as goal

pub returns-then-line-eq0 : goal.returns-then-line-eq0
returns-then-line-eq0 c =
    let none : count_by is_newline (take c.args.offset c.args.text.now) ≡ 0 = omega (arith, c.requires.line, c.if-line-eq0.true) in
    let all = columns (first_column c.args.text.now) (take c.args.offset c.args.text.now) none in
    let here : c.characters.result ≡ count_by begins_char (take c.args.offset c.args.text.now) = c.characters.ensures.exact ∙ ap (count_by begins_char) c.front.ensures in
    omega (arith, all, here, c.first_column.ensures)

pub returns : goal.returns
returns c =
    let k = c.args.line - 1 in
    let text = c.args.text.now in
    let more : count_by is_newline (take c.args.offset text) ≡ c.args.line - 1 + 1 = omega (arith, c.requires.line, c.if-line-eq0.false) in
    let within : c.args.line - 1 < length c.args.starts.now = omega (arith, c.requires.bound, c.if-line-eq0.false) in
    let at = column-at text (first_column text) c.args.offset (c.args.line - 1) (subst (λ xs. c.args.line - 1 < length xs) c.requires.starts within) more in
    let here : c.characters-2.result ≡ count_by begins_char (drop (slice_index (starts_from 0 text) (c.args.line - 1)) (take c.args.offset text)) =
    c.characters-2.ensures.exact
    ∙ ap (count_by begins_char) (c.behind.ensures ∙ ap (drop (slice_index c.args.starts.now (c.args.line - 1))) c.front-2.ensures ∙ ap (λ xs. drop (slice_index xs (c.args.line - 1)) (take c.args.offset text)) c.requires.starts) in
    omega (arith, at, here)

use Rattle.std.proofs.Common.{◌≡◌, ◌+◌, ◌-◌, ◌<◌, ◌∙◌, ap, sym, arith, drop, length, take, length-drop}
use Rattle.std.proofs.lemmas.List.{take_all, drop-drop}
use Rattle.std.specs.Str.{bytes_eq}
use Rattle.item_tree.specs.Strings.{first_piece, value_from}
use Rattle.item_tree.proofs.StringValues.{differs, goes_on}
use Rattle.item_tree.proofs.lexer.strings.stands_for.Goals as goal

pub returns-in-None : goal.returns-in-None
returns-in-None c =
    let raw = c.args.is_raw in
    let contents = c.args.contents.now in
    let at = c.loop-at.at in
    let piece = c.first_piece-piece.result in
    let whole : take (length contents - at) (drop at contents) ≡ drop at contents = take_all (length contents - at) (drop at contents) (omega (arith, length-drop at contents)) in
    let is : piece ≡ first_piece raw (drop at contents) = c.first_piece-piece.ensures.exact ∙ ap (λ bs. first_piece raw bs) whole in
    let some : 0 < length (drop at contents) = omega (arith, length-drop at contents, c.loop-at-test.true) in
    sym (differs raw (drop at contents) c.loop-at.rest.now piece some is c.first_piece-piece.ensures.some (sym c.matched_len.ensures ∙ c.in-None.is)) ∙ c.loop-at.invariant

pub loop-at-preserved : goal.loop-at-preserved
loop-at-preserved c =
    let raw = c.args.is_raw in
    let contents = c.args.contents.now in
    let at = c.loop-at.at in
    let rest = c.loop-at.rest.now in
    let piece = c.first_piece-piece.result in
    let n = c.in-Some.len in
    let whole : take (length contents - at) (drop at contents) ≡ drop at contents = take_all (length contents - at) (drop at contents) (omega (arith, length-drop at contents)) in
    let is : piece ≡ first_piece raw (drop at contents) = c.first_piece-piece.ensures.exact ∙ ap (λ bs. first_piece raw bs) whole in
    let some : 0 < length (drop at contents) = omega (arith, length-drop at contents, c.loop-at-test.true) in
    ap (λ r. bytes_eq (value_from raw 0 (drop (at + piece.len) contents)) r) c.behind-rest.ensures
    ∙ (ap (λ bs. bytes_eq (value_from raw 0 bs) (drop n rest)) (sym (drop-drop piece.len at contents))
    ∙ (goes_on raw (drop at contents) rest piece n some is c.first_piece-piece.ensures.some (sym c.matched_len.ensures ∙ c.in-Some.is) ∙ c.loop-at.invariant))

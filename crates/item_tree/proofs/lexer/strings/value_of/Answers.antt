use Rattle.std.proofs.Common.{◌≡◌, ◌+◌, ◌-◌, ◌++◌, ◌<◌, ◌∙◌, ap, sym, arith, drop, length, take, append_assoc, length-drop}
use Rattle.std.proofs.lemmas.List.{take_all, drop-drop}
use Rattle.item_tree.specs.Strings.{bytes_of, first_piece, value_from}
use Rattle.item_tree.proofs.StringValues.{first_of}
use Rattle.item_tree.proofs.lexer.strings.value_of.Goals as goal

pub loop-at-preserved : goal.loop-at-preserved
loop-at-preserved c =
    let raw = c.args.is_raw in
    let contents = c.args.contents.now in
    let at = c.loop-at.at in
    let before = c.loop-at.value.items in
    let piece = c.first_piece-piece.result in
    let behind = value_from raw 0 (drop (at + piece.len) contents) in
    let whole : take (length contents - at) (drop at contents) ≡ drop at contents = take_all (length contents - at) (drop at contents) (omega (arith, length-drop at contents)) in
    let is : piece ≡ first_piece raw (drop at contents) = c.first_piece-piece.ensures.exact ∙ ap (λ bs. first_piece raw bs) whole in
    let some : 0 < length (drop at contents) = omega (arith, length-drop at contents, c.loop-at-test.true) in
    ap (λ xs. xs ++ behind) c.in_ok-push_piece.ensures
    ∙ (append_assoc before (bytes_of piece.stands_for) behind
    ∙ (ap (λ bs. before ++ (bytes_of piece.stands_for ++ value_from raw 0 bs)) (sym (drop-drop piece.len at contents))
    ∙ (ap (λ xs. before ++ xs) (sym (first_of raw (drop at contents) piece some is c.first_piece-piece.ensures.some)) ∙ c.loop-at.invariant)))

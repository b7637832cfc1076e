use Rattle.std.proofs.Common.{◌≡◌, length, rules}
use Rattle.item_tree.proofs.Partners.{closed_before, read_next}
use Rattle.item_tree.proofs.lexer.delimiters.partners.Goals as goal

pub add_partner-requires : goal.add_partner-requires
add_partner-requires c =
    closed_before c.args.lexemes.now c.loop-lexeme.lexeme-index c.loop-lexeme.pending c.loop-lexeme.before.items c.loop-lexeme.partners.items _ _ c.loop-lexeme.invariant c.closes.ensures

pub loop-lexeme-preserved : goal.loop-lexeme-preserved
loop-lexeme-preserved c =
    let here : c.len-place.result ≡ length c.loop-lexeme.partners.items = search rules in
    read_next c.args.lexemes.now c.loop-lexeme.lexeme-index c.len-place.result c.loop-lexeme.pending _ c.loop-lexeme.before.items _ _ c.loop-lexeme.partners.items _ _ _ c.loop-lexeme-test.true
    c.loop-lexeme.invariant here c.closes.ensures c.in_ok-add_partner.ensures.ok c.in_ok-push.ensures.items c.as_slice.ensures.value c.open_behind-pending.ensures

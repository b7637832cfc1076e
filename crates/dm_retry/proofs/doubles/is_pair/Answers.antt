use Rattle.std.proofs.Common.{◌≡◌, ◌∙◌, Some, ap, ap₂, arith, slice_get, sym}
use Rattle.std.proofs.lemmas.Option.{slice_get-get_or}
use Rattle.dm_retry.specs.Known.{same_leaf}
use Rattle.dm_retry.proofs.DoubleLemmas.{pair}
use Rattle.dm_retry.proofs.doubles.is_pair.Goals as goal

pub returns : goal.returns
returns c = λ same.
    let ps = c.args.pendings.now in
    let p = c.index-pendings-first.result in
    let q = c.index-pendings-second.result in
    let a : slice_get ps c.args.first ≡ Some p = slice_get-get_or ps c.args.first p (omega (arith, c.if-first-pendings.false)) ∙ ap Some (sym c.index-pendings-first.is) in
    let b : slice_get ps c.args.second ≡ Some q = slice_get-get_or ps c.args.second q (omega (arith, c.if-second-pendings.false)) ∙ ap Some (sym c.index-pendings-second.is) in
    pair ps c.args.first c.args.second p q a b c.if-first-second.false (sym (ap₂ same_leaf c.import.ensures c.import-2.ensures) ∙ sym c.eq.ensures ∙ same)

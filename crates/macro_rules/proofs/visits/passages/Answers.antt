use Rattle.std.proofs.Common.{◌∙◌, ◌-◌, List, [], ◌∷◌, ◌++◌, ap, sym, append_assoc}
use Rattle.std.proofs.lemmas.List.{append-nil}
use Rattle.macro_rules.specs.Visits.{passage, passages_of}
use Rattle.macro_rules.specs.declared.visits.Passage.{Passage}
use Rattle.macro_rules.proofs.Passed.{passages_none, passages_last, passages_next}
use Rattle.macro_rules.proofs.visits.passages.Goals as goal

pub returns-in-None : goal.returns-in-None
returns-in-None c =
    sym (append-nil c.loop-left.found.items)
    ∙ (ap (λ (l : List Passage). c.loop-left.found.items ++ l) (sym (passages_none c.args.log.now c.loop-left.left c.loop-left.at c.loop-left.behind c.loop-left-test.true c.in-None.ensures))
    ∙ c.loop-left.invariant)

pub returns-then-at-eq0 : goal.returns-then-at-eq0
returns-then-at-eq0 c =
    c.in_ok-push-in-Some.ensures.items
    ∙ (ap (λ (l : List Passage). c.loop-left.found.items ++ l)
    (sym (passages_last c.args.log.now c.loop-left.left c.loop-left.at c.loop-left.behind c.in-Some.thread c.loop-left-test.true c.if-at-eq0.true c.in-Some.ensures))
    ∙ c.loop-left.invariant)

pub loop-left-preserved : goal.loop-left-preserved
loop-left-preserved c =
    let t = c.in-Some.thread in
    let rest = passages_of c.args.log.now (c.loop-left.left - 1) t.before t.place in
    ap (λ (l : List Passage). l ++ rest) c.in_ok-push-in-Some.ensures.items
    ∙ (append_assoc c.loop-left.found.items (passage t c.loop-left.behind ∷ []) rest
    ∙ (ap (λ (l : List Passage). c.loop-left.found.items ++ l)
    (sym (passages_next c.args.log.now c.loop-left.left c.loop-left.at c.loop-left.behind t c.loop-left-test.true c.if-at-eq0.false c.in-Some.ensures))
    ∙ c.loop-left.invariant))

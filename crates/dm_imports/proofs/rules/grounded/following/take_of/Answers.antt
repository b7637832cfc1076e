use Rattle.std.proofs.Common.{◌∙◌, List, [], ◌∷◌, subst, sym}
use Rattle.std.proofs.lemmas.List.Elements.{Contains-append_left}
use Rattle.std.specs.List.{Contains}
use Rattle.dm_imports.specs.Grounding.{Way}
use Rattle.dm_imports.proofs.rules.grounded.following.take_of.Goals as goal

pub loop-slot-preserved : goal.loop-slot-preserved
loop-slot-preserved c = λ w has.
    let there = Contains-append_left c.pop.new.self.items (c.in-Some.slot ∷ []) w has in
    c.loop-slot.invariant w (subst (λ (ws : List Way). Contains ws w) (sym c.in-Some.ensures.items) there)

pub returns-then-ne : goal.returns-then-ne
returns-then-ne c = λ w has.
    c.loop-slot.invariant w (subst (λ (ws : List Way). Contains ws w) (c.in_ok-push.ensures.items ∙ sym c.in-Some.ensures.items) has)

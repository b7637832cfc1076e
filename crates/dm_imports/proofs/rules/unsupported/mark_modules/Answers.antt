use Rattle.std.proofs.Common.{◌≡◌, ◌∙◌, ℕ, ap, arith, inl, inr, not, subst, sym}
use Rattle.std.proofs.lemmas.Bool.{cases_lt}
use Rattle.std.specs.Prelude.{IsTrue}
use Rattle.dm_maps.specs.declared.check.held.HeldId.TheVariants as held
use Rattle.dm_maps.specs.Known.{knows}
use Rattle.dm_maps.specs.World.{World}
use Rattle.dm_imports.specs.Grounding.{slots_of}
use Rattle.dm_imports.specs.Marking.{AreJudgedIn}
use Rattle.dm_imports.specs.Tables.{MapTables, of_tables}
use Rattle.dm_imports.proofs.MarkLemmas.{judged-more, marks-then}
use Rattle.dm_imports.proofs.rules.unsupported.mark_modules.Goals as goal

pub loop-number-preserved : goal.loop-number-preserved
loop-number-preserved c =
    let d = of_tables c.args.maps.now in
    let k = c.loop-number.found in
    let l = c.mark_module.new.found in
    let marks = c.in_ok-mark_module.ensures.marks in
    record {
      marks = marks-then d c.args.found.now k l c.loop-number.invariant.marks marks;
      judged = λ m less. elim (cases_lt m.0 c.loop-number.number) [
        | inl h ↦ λ n has. judged-more d (slots_of k.unsupported) (slots_of l.unsupported) marks.more m n (c.loop-number.invariant.judged m h n has)
        | inr h ↦ let is : c.loop-number.number ≡ m.0 = omega arith in subst (λ (i : ℕ). AreJudgedIn d (slots_of l.unsupported) (record { 0 = i })) is c.in_ok-mark_module.ensures.judged
      ];
    }

pub mark_module-requires-clause-home : goal.mark_module-requires-clause-home
mark_module-requires-clause-home c =
    let d = of_tables c.args.maps.now in
    let same : c.maps.inside.world.now ≡ d.world = ap (λ (t : MapTables). t.world) c.maps.view_is in
    let there = sym c.scope_of.ensures.there ∙ c.is_none.ensures ∙ ap not c.if-is_none.false in
    (subst (λ (w : World). IsTrue (knows w (held.Module (record { 0 = c.loop-number.number })))) same there, c.loop-number-test.true)

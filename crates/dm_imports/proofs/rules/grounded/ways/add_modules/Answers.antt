use Rattle.std.proofs.Common.{◌≡◌, ◌∙◌, ℕ, None, ap, arith, inl, inr, not, subst, sym}
use Rattle.std.proofs.lemmas.Bool.{cases_lt}
use Rattle.std.specs.Prelude.{IsTrue}
use Rattle.dm_maps.specs.declared.check.held.HeldId.TheVariants as held
use Rattle.dm_maps.specs.Known.{knows}
use Rattle.dm_maps.specs.World.{World}
use Rattle.dm_imports.specs.Grounding.{HasWaysOf, slots_of}
use Rattle.dm_imports.specs.Tables.{MapTables, of_tables}
use Rattle.dm_imports.proofs.ListedLemmas.{all-settled-more, more-then}
use Rattle.dm_imports.proofs.rules.grounded.ways.add_modules.Goals as goal

pub add_module-requires-clause-home : goal.add_module-requires-clause-home
add_module-requires-clause-home c =
    let d = of_tables c.args.maps.now in
    let same : c.maps.inside.world.now ≡ d.world = ap (λ (t : MapTables). t.world) c.maps.view_is in
    let there = sym c.scope_of.ensures.there ∙ c.is_none.ensures ∙ ap not c.if-is_none.false in
    (subst (λ (w : World). IsTrue (knows w (held.Module (record { 0 = c.loop-number.number })))) same there, c.loop-number-test.true)

pub loop-number-preserved : goal.loop-number-preserved
loop-number-preserved c =
    let d = of_tables c.args.maps.now in
    let k = c.loop-number.known in
    let l = c.add_module.new.known in
    let vs = c.loop-number.ways.items in
    let ws = c.add_module.new.ways.items in
    let more = c.in_ok-add_module.ensures.more in
    record {
      more = more-then d c.args.known.now k l c.args.ways.now.items vs ws c.loop-number.invariant.more more;
      settled = λ m less. elim (cases_lt m.0 c.loop-number.number) [
        | inl h ↦ λ n has. all-settled-more d k l vs ws more m n None (c.loop-number.invariant.settled m h n has)
        | inr h ↦ let is : c.loop-number.number ≡ m.0 = omega arith in subst (λ (i : ℕ). HasWaysOf d (slots_of l) ws (record { 0 = i })) is c.in_ok-add_module.ensures.settled
      ];
    }

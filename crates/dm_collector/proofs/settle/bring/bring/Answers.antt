use Rattle.std.proofs.Common.{◌≡◌, ◌∙◌, ℕ, None, arith, inl, inr, subst}
use Rattle.std.proofs.lemmas.Bool.{cases_lt, or_parts}
use Rattle.dm_maps.specs.World.{World}
use Rattle.dm_collector.specs.Steps.{Bring, maps_with}
use Rattle.dm_collector.specs.UnnamedTraits.{missing_glob}
use Rattle.dm_collector.proofs.ReachLemmas.{reached-by, reached-or}
use Rattle.dm_collector.proofs.TraitLemmas.{all-brought}
use Rattle.dm_collector.proofs.settle.bring.bring.Goals as goal

pub loop-i-preserved : goal.loop-i-preserved
loop-i-preserved c =
    let d = maps_with c.args.given.now c.args.ambiguous.now in
    let g = c.args.glob.now in
    let inv = c.loop-i.invariant in
    let own = c.in_ok-written.ensures in
    record {
      same = λ none. let parts = or_parts c.loop-i.written c.in_ok-written.field-0 none in own.same parts.1 ∙ inv.same parts.0;
      none = λ none k below.
          let parts = or_parts c.loop-i.written c.in_ok-written.field-0 none in
          let P : ℕ → Type 0 = λ n. missing_glob (d c.args.world.now) g n ≡ None in
          let here : P c.loop-i.i = subst (λ (w : World). missing_glob (d w) g c.loop-i.i ≡ None) (inv.same parts.0) (own.none parts.1) in
          elim (cases_lt k c.loop-i.i) [ inl h ↦ inv.none parts.0 k h | inr h ↦ subst P (omega arith) here ];
      reached = λ x has.
          reached-or d x c.loop-i.written c.in_ok-written.field-0 _ _ _ (inv.reached x has)
          (reached-by d x (Bring g c.loop-i.i) c.in_ok-written.field-0 _ _ has own.world own.answer);
      shown = λ h k ps s. own.shown h k ps (inv.shown h k ps s);
    }

pub returns-clause-none : goal.returns-clause-none
returns-clause-none c = λ none.
    all-brought (maps_with c.args.given.now c.args.ambiguous.now c.args.world.now) c.args.glob.now c.source_count-count.result c.source_count-count.ensures
    (λ k below. c.loop-i.invariant.none none k (omega (arith, c.loop-i-test.false)))

use Rattle.std.proofs.Common.{◌≡◌, ◌∙◌, Bor, None, ap, false, is_none, subst, sym}
use Rattle.std.proofs.lemmas.List.{take_all}
use Rattle.std.proofs.lemmas.List.Elements.{All-map, All-more}
use Rattle.std.specs.List.{All}
use Rattle.dm_base.specs.Names.{Name}
use Rattle.dm_collector.proofs.ListLemmas.{added-all}
use Rattle.dm_collector.proofs.MacroLemmas.{none-test, none-there}
use Rattle.dm_collector.specs.MacroPreludes.{missing_macro}
use Rattle.dm_collector.proofs.macro_preludes.add_missing.Goals as goal

pub loop-name-preserved : goal.loop-name-preserved
loop-name-preserved c =
    let w = c.args.world.now in
    let u = c.args.uses.now in
    let n = c.name-item.result.now in
    let own : is_none (missing_macro w u n) ≡ c.is_none.result = ap is_none (sym c.missing_macro-missing.ensures.value) ∙ none-test c.missing_macro-missing.result c.is_none.result (sym c.is_none.ensures) in
    let added = c.in_ok-add_unless.ensures in
    record {
      some = added-all (λ (m : Name). is_none (missing_macro w u m) ≡ false) c.loop-name.names.items n c.is_none.result _ added.value c.loop-name.invariant.some (λ no. own ∙ no);
      kept = λ empty. c.loop-name.invariant.kept (added.none empty).0;
      none = λ empty.
          let Q : Bor Name → Type 0 = λ b. missing_macro w u b.now ≡ None in
          let here : Q c.name-item.result = none-there (missing_macro w u n) (own ∙ (added.none empty).1) in
          All-more Q c.args.listed.now c.loop-name.name-index c.name-item.result c.loop-name-test.true (c.loop-name.invariant.none (added.none empty).0) (subst Q c.name-item.is here);
    }

pub returns-clause-none : goal.returns-clause-none
returns-clause-none c = λ none.
    let P : Name → Type 0 = λ m. missing_macro c.args.world.now c.args.uses.now m ≡ None in
    let Q : Bor Name → Type 0 = λ b. P b.now in
    All-map P (λ b. b.now) c.args.listed.now (subst (All Q) (take_all _ _ c.loop-name-test.false) (c.loop-name.invariant.none none))

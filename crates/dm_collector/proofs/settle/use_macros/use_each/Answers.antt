use Rattle.std.proofs.Common.{◌≡◌, ◌∙◌, None, subst}
use Rattle.std.proofs.lemmas.Bool.{or_parts}
use Rattle.std.proofs.lemmas.List.Elements.{All-push}
use Rattle.dm_base.specs.Names.{Name}
use Rattle.dm_maps.specs.World.{World}
use Rattle.dm_collector.specs.MacroPreludes.{missing_macro}
use Rattle.dm_collector.specs.Steps.{Use}
use Rattle.dm_collector.proofs.ReachLemmas.{reached-by, reached-or}
use Rattle.dm_collector.proofs.settle.use_macros.use_each.Goals as goal

pub loop-name-preserved : goal.loop-name-preserved
loop-name-preserved c =
    let inv = c.loop-name.invariant in
    let own = c.in_ok-written.ensures in
    let u = c.args.uses.now in
    let n = c.in-Some.name in
    record {
      same = λ none. let parts = or_parts c.loop-name.written c.in_ok-written.field-0 none in own.same parts.1 ∙ inv.same parts.0;
      idle = λ none.
          let parts = or_parts c.loop-name.written c.in_ok-written.field-0 none in
          let here = subst (λ (w : World). missing_macro w u n ≡ None) (inv.same parts.0) (own.none parts.1) in
          All-push (λ (m : Name). missing_macro c.args.world.now u m ≡ None) c.loop-name.yielded n (inv.idle parts.0) here;
      reached = λ d x has.
          reached-or d x c.loop-name.written c.in_ok-written.field-0 _ _ _ (inv.reached d x has)
          (reached-by d x (Use u n) c.in_ok-written.field-0 _ _ has own.ok own.answer);
      shown = λ g k ps h. own.shown g k ps (inv.shown g k ps h);
    }

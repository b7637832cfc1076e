use Rattle.std.proofs.Common.{◌≡◌, ◌∙◌, ◌+◌, List, Option, ap, drop, subst, sym}
use Rattle.std.specs.Option.{IfSome, option_or}
use Rattle.crate_tables.specs.Steps.{next-of}
use Rattle.dm_maps.specs.Holding.{def_holds}
use Rattle.dm_base.specs.declared.item_ids.ModuleDefId.TheVariants as def
use Rattle.dm_maps.specs.Known.{KnowsAll}
use Rattle.dm_collector.proofs.MacroLemmas.{or-assoc, or-held, or-none}
use Rattle.dm_collector.specs.MacroPreludes.{Entry, given}
use Rattle.dm_collector.specs.declared.macro_uses.MacroSource.{MacroSource}
use Rattle.dm_collector.proofs.macro_preludes.given.Goals as goal

pub loop-source-init : goal.loop-source-init
loop-source-init c = record { value = or-none _; known = tt }

pub loop-source-preserved : goal.loop-source-preserved
loop-source-preserved c =
    let w = c.args.world.now in
    let n = c.args.name.now in
    let ss = c.args.sources.now in
    let i = c.loop-source.source-index in
    let s = c.source-item.result in
    let rest = drop (i + 1) ss in
    let found = c.loop-source.found in
    let own = c.brought.result in
    let step : given w (drop i ss) n ≡ option_or (given w rest n) own =
    ap (λ (xs : List MacroSource). given w xs n) (next-of ss i s c.loop-source-test.true c.source-item.is)
    ∙ ap (option_or (given w rest n)) (sym c.brought.ensures.value) in
    record {
      value =
          ap (option_or (given w rest n)) c.or-found.ensures
          ∙ sym (or-assoc (given w rest n) own found)
          ∙ ap (λ (x : Option Entry). option_or x found) (sym step)
          ∙ c.loop-source.invariant.value;
      known = subst (λ (x : Option Entry). IfSome x (λ (e : Entry). KnowsAll w (def_holds (def.MacroId e.0)))) (sym c.or-found.ensures)
          (or-held (λ (e : Entry). KnowsAll w (def_holds (def.MacroId e.0))) own found c.brought.ensures.known c.loop-source.invariant.known);
    }

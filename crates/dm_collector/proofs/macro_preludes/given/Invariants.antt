use Rattle.std.proofs.Common.{◌≡◌, drop}
use Rattle.std.specs.Option.{IfSome, option_or}
use Rattle.dm_maps.specs.Holding.{def_holds}
use Rattle.dm_base.specs.declared.item_ids.ModuleDefId.TheVariants as def
use Rattle.dm_maps.specs.Known.{KnowsAll}
use Rattle.dm_collector.specs.MacroPreludes.{Entry, given}
use Rattle.dm_collector.proofs.macro_preludes.given.Given as goal

-- what the roots that are left bring, or else what was found so far, is what all bring; and that is the world's
abbrev pub invariant-loop-source : goal.invariant-loop-source
invariant-loop-source l = record {
  value : option_or (given l.world (drop l.source-index l.sources) l.name) l.found ≡ given l.world l.sources l.name;
  known : IfSome l.found (λ (e : Entry). KnowsAll l.world (def_holds (def.MacroId e.0)));
}

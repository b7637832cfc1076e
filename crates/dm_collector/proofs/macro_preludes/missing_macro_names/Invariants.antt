use Rattle.std.proofs.Common.{◌≡◌, [], false, is_none, take}
use Rattle.std.specs.List.{All}
use Rattle.dm_base.specs.Names.{Name}
use Rattle.dm_collector.specs.MacroPreludes.{HasMacrosOf, missing_macro}
use Rattle.dm_collector.proofs.macro_preludes.missing_macro_names.Given as goal

-- under each name that was added a macro is missing; where there is none, none is missing of the roots so far
abbrev pub invariant-loop-source : goal.invariant-loop-source
invariant-loop-source l = record {
  some : All (λ (n : Name). is_none (missing_macro l.world l.uses n) ≡ false) l.names.items;
  used : l.names.items ≡ [] → All (HasMacrosOf l.world l.uses) (take l.source-index l.source-items);
}

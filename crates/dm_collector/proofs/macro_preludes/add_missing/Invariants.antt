use Rattle.std.proofs.Common.{◌≡◌, [], Bor, None, false, is_none, take}
use Rattle.std.specs.List.{All}
use Rattle.dm_base.specs.Names.{Name}
use Rattle.dm_collector.specs.MacroPreludes.{missing_macro}
use Rattle.dm_collector.proofs.macro_preludes.add_missing.Given as goal

-- under each name that was added a macro is missing; where there is none, none is missing under the names so far
abbrev pub invariant-loop-name : goal.invariant-loop-name
invariant-loop-name l = record {
  some : All (λ (n : Name). is_none (missing_macro l.world l.uses n) ≡ false) l.names.items;
  kept : l.names.items ≡ [] → l.fn.names.items ≡ [];
  none : l.names.items ≡ [] → All (λ (n : Bor Name). missing_macro l.world l.uses n.now ≡ None) (take l.name-index l.listed);
}

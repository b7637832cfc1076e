use Rattle.std.proofs.Common.{◌≡◌, ◌+◌, ◌-◌, ◌^◌, ◌≤◌, drop, length, min}
use Rattle.std.specs.List.{flat_map}
use Rattle.dm_scope.specs.Records.{records_in}
use Rattle.defmap_callers.proofs.modules.ModulesScopeTables.records.Given as goal

-- the count, with the records of what is left, is that of all
abbrev pub invariant-loop-scope : goal.invariant-loop-scope
invariant-loop-scope l = record {
  left :
      min (l.count + length (flat_map (records_in l.namespace) (drop l.scope-index l.self.scopes.items))) (2 ^ 64 - 1)
      ≡ min (length (flat_map (records_in l.namespace) l.self.scopes.items)) (2 ^ 64 - 1);
  fits : l.count ≤ 2 ^ 64 - 1;
}

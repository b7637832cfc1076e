use Rattle.std.proofs.Common.{◌≡◌, ◌++◌, drop, map}
use Rattle.std.specs.Option.{option_or}
use Rattle.std.specs.Prelude.{fold}
use Rattle.dm_base.specs.declared.ids.ModuleId.{ModuleId}
use Rattle.dm_base.specs.declared.per_ns.Namespace.{Namespace}
use Rattle.dm_base.specs.Names.{Name}
use Rattle.dm_imports.specs.Asked.{meanings_of}
use Rattle.dm_imports.specs.Rules.{import_to}
use Rattle.dm_imports.specs.Slots.{slot_at}
use Rattle.dm_imports.specs.Tables.{of_tables}
use Rattle.dm_imports.proofs.rules.all_imports.add_imports.Given as goal

-- what is there, with what the imports bring that are left, is what the call began with, with what all bring
abbrev pub invariant-loop-import : goal.invariant-loop-import
invariant-loop-import l = record {
  slots : (k : ModuleId) (x : Name) (t : Namespace) →
      fold (λ y i. option_or y (import_to (of_tables l.maps) k x t i)) (slot_at l.all.slots k x t) (drop l.import-index l.imports)
      ≡ fold (λ y i. option_or y (import_to (of_tables l.maps) k x t i)) (slot_at l.fn.all.slots k x t) l.imports;
  each : l.all.each.items ++ map (meanings_of (of_tables l.maps)) (drop l.import-index l.imports) ≡ l.fn.all.each.items ++ map (meanings_of (of_tables l.maps)) l.imports;
}

use Rattle.std.proofs.Common.{◌≡◌, drop}
use Rattle.std.specs.Prelude.{fold}
use Rattle.dm_base.specs.declared.ids.ModuleId.{ModuleId}
use Rattle.dm_base.specs.declared.per_ns.Namespace.{Namespace}
use Rattle.dm_base.specs.Names.{Name}
use Rattle.dm_imports.specs.Brought.{AreAllNamed, join}
use Rattle.dm_imports.specs.Grounded.{known_offer}
use Rattle.dm_imports.specs.Grounding.{slots_of}
use Rattle.dm_imports.specs.Slots.{slot_at}
use Rattle.dm_imports.specs.Tables.{of_tables}
use Rattle.dm_imports.proofs.rules.grounded.known_offers.add_globs.Given as goal

-- what is there, with what the globs offer that are left, is what the call began with, with what all offer
abbrev pub invariant-loop-glob : goal.invariant-loop-glob
invariant-loop-glob l = record {
  joined : (k : ModuleId) (x : Name) (t : Namespace) →
      fold (λ j g. join l.maps.world k j (known_offer (of_tables l.maps) (slots_of l.known) k x t g)) (slot_at l.all k x t) (drop l.glob-index l.globs)
      ≡ fold (λ j g. join l.maps.world k j (known_offer (of_tables l.maps) (slots_of l.known) k x t g)) (slot_at l.fn.all k x t) l.globs;
  named : AreAllNamed l.maps.world l.all;
}

use Rattle.std.proofs.Common.{◌≡◌, List, false, take}
use Rattle.std.specs.List.{All}
use Rattle.def_diagnostics.specs.OpenModules.{AllOpen, IsClosedAt, Keeps}
use Rattle.dm_base.specs.declared.ids.ModuleId.{ModuleId}
use Rattle.def_diagnostics.proofs.open_modules.pass.Given as goal

-- while no module was added, all is as it was, and no glob so far adds one; what was added is open
abbrev pub invariant-loop-edge : goal.invariant-loop-edge
invariant-loop-edge l = record {
  same : l.grown ≡ false → l.modules.keys ≡ l.fn.modules.keys;
  closed : l.grown ≡ false → All (IsClosedAt l.fn.modules.keys) (take l.edge-index l.edges);
  kept : Keeps l.fn.modules.keys l.modules.keys;
  sound : (calls : List ModuleId) → AllOpen calls l.edges l.fn.modules.keys → AllOpen calls l.edges l.modules.keys;
}

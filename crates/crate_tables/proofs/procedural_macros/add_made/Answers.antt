use Rattle.std.proofs.Common.{Err, subst}
use Rattle.crate_tables.proofs.ShortLemmas.{macro-short, passed}
use Rattle.crate_tables.specs.CrateRoots.{root_id}
use Rattle.crate_tables.specs.ProceduralMacros.{loc_of}
use Rattle.dm_base.specs.declared.ids.ModuleId.{ModuleId}
use Rattle.dm_base.specs.declared.item_ids.MacroId.{MacroId}
use Rattle.dm_maps.specs.Faults.{Answers}
use Rattle.dm_maps.specs.ItemFaults.{macro_fault}
use Rattle.crate_tables.proofs.procedural_macros.add_made.Goals as goal

pub returns-in_err-id-clause-fault : goal.returns-in_err-id-clause-fault
returns-in_err-id-clause-fault c =
    let w = c.args.builder.now in
    let f = c.in_err-id.field-0.0 in
    passed c.from_residual.result f _ c.from_residual.ensures.1
    (macro-short MacroId w (root_id c.args.krate) (loc_of c.args.made) f c.requires.root
    (subst (λ (m : ModuleId). Answers {A = MacroId} (macro_fault w m) (Err f)) c.root_id.ensures c.in_err-id.ensures.fault))

use Rattle.std.proofs.Common.{subst}
use Rattle.dm_base.specs.Tree.{IsKnown}
use Rattle.dm_maps.specs.Trees.{tree_of}
use Rattle.dm_imports.specs.Tables.{MapTables, asks}
use Rattle.dm_imports.proofs.AskLemmas.{module-may}
use Rattle.dm_imports.proofs.def_maps.DefMaps.meaning_in.Goals as goal

pub path_meaning-requires : goal.path_meaning-requires
path_meaning-requires c =
    let home = subst (λ (t : MapTables). IsKnown (tree_of t.world) c.args.home) c.self.view_is (c.has.ensures.0 c.if-has.true) in
    module-may c.args.self.now c.args.home (asks c.module_asks-asking.result) c.module_asks-asking.ensures home

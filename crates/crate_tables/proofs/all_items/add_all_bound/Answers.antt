use Rattle.std.proofs.Common.{◌∙◌, ap}
use Rattle.crate_tables.proofs.LibraryLemmas.{library-on}
use Rattle.crate_tables.specs.CrateRoots.{root_id}
use Rattle.crate_tables.specs.LibraryNames.{with_library_in}
use Rattle.dm_maps.specs.declared.check.held.HeldId.TheVariants as held
use Rattle.crate_tables.proofs.all_items.add_all_bound.Goals as goal

pub declare_library-requires-clause-root : goal.declare_library-requires-clause-root
declare_library-requires-clause-root c = c.in_ok-add_all_items.ensures.stays.known (held.Module (root_id c.args.view.now.krate)) c.requires.roots.0

pub declare_library-requires-clause-known : goal.declare_library-requires-clause-known
declare_library-requires-clause-known c = library-on _ _ c.args.library c.in_ok-add_all_items.ensures.stays c.requires.library

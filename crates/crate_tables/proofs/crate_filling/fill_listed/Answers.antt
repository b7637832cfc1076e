use Rattle.crate_tables.proofs.KeptLemmas.{kept-further, kept-grown}
use Rattle.std.proofs.Common.{◌∙◌, List, Option, ap, subst, sym}
use Rattle.crate_items.specs.declared.items.crate_attributes.CrateAttribute.{CrateAttribute}
use Rattle.crate_tables.proofs.CrowdLemmas.{list-on}
use Rattle.crate_tables.proofs.ShortLemmas.{passed}
use Rattle.crate_tables.specs.CrateFillings.{prepared}
use Rattle.crate_tables.specs.LibraryNames.{library_name}
use Rattle.crate_tables.specs.NewModules.{CrateView}
use Rattle.std.specs.Prelude.{IfSome, IsTrue}
use Rattle.crate_tables.proofs.LibraryLemmas.{library-known, library-on}
use Rattle.crate_tables.specs.CrateRoots.{root_id}
use Rattle.crate_tables.specs.declared.library_name.LibraryName.{LibraryName}
use Rattle.dm_maps.specs.Known.{knows}
use Rattle.dm_maps.specs.declared.check.held.HeldId.TheVariants as held
use Rattle.crate_tables.proofs.crate_filling.fill_listed.Goals as goal
use Rattle.crate_tables.specs.CrateRoots.{root_holds}
use Rattle.crate_tables.specs.ExternCrates.{linkable}

pub fill_list-requires-clause-root : goal.fill_list-requires-clause-root
fill_list-requires-clause-root c = c.prepare.ensures.grown.all (root_holds c.args.view.now.krate) c.requires.root

pub fill_list-requires-clause-roots : goal.fill_list-requires-clause-roots
fill_list-requires-clause-roots c = c.prepare.ensures.grown.all (linkable c.args.view.now.krate c.args.dependencies.now) c.requires.roots

pub returns-in_err-prepare-clause-stays : goal.returns-in_err-prepare-clause-stays
returns-in_err-prepare-clause-stays c = kept-grown _ _ c.in_err-prepare.ensures.grown

pub returns-in_err-table-clause-stays : goal.returns-in_err-table-clause-stays
returns-in_err-table-clause-stays c = kept-further _ _ _ (kept-grown _ _ c.in_ok-prepare.ensures.grown) c.in_err-table.ensures.stays

pub returns-clause-stays : goal.returns-clause-stays
returns-clause-stays c = kept-further _ _ _ (kept-grown _ _ c.in_ok-prepare.ensures.grown) c.in_ok-table.ensures.stays

pub fill_list-requires-clause-library : goal.fill_list-requires-clause-library
fill_list-requires-clause-library c =
    library-on _ _ c.in_ok-library.library (kept-grown _ _ c.prepare.ensures.grown)
    (subst (λ (l : Option LibraryName). IfSome l (λ l. IsTrue (knows c.args.builder.now (held.Module (root_id l.krate))))) (sym c.in_ok-library.ensures)
    (library-known c.args.builder.now c.view.inside.edition c.as_slice.result.now c.args.view.now.krate c.args.dependencies.now c.requires.roots))

pub returns-in_err-table-clause-fault : goal.returns-in_err-table-clause-fault
returns-in_err-table-clause-fault c =
    passed c.from_residual-in_err-table.result c.in_err-table.field-0.0 _ c.from_residual-in_err-table.ensures.1
    (let ds = c.args.dependencies.now in
    let attrs = c.args.attributes.items in
    list-on c.args.view.now ds c.args.externs.now.items _ _ _ _ _
    (c.in_ok-library.ensures ∙ ap (λ (xs : List CrateAttribute). library_name c.view.inside.edition xs ds) c.as_slice.ensures.value
    ∙ ap (λ (v : CrateView). library_name v.edition attrs ds) c.view.view_is)
    (c.in_ok-prepare.ensures.world ∙ ap (λ (v : CrateView). prepared c.args.builder.now v.krate attrs ds) c.view.view_is) c.in_err-table.ensures.fault)

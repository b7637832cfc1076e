use Rattle.std.proofs.Common.{◌≡◌, ◌∙◌, List, ap, subst}
use Rattle.crate_items.specs.CrateAttributes.{crate_attributes}
use Rattle.crate_items.specs.declared.files.dependency.Dependency.{Dependency}
use Rattle.crate_items.specs.declared.items.crate_attributes.CrateAttribute.{CrateAttribute}
use Rattle.crate_tables.proofs.ShortLemmas.{passed}
use Rattle.crate_tables.specs.CrateFillings as spec
use Rattle.crate_tables.specs.ExternCrates.{Linked}
use Rattle.crate_tables.specs.LibraryNames.{library_name}
use Rattle.crate_tables.specs.NewModules.{CrateView}
use Rattle.crate_tables.specs.Numbers.{IsShortage}
use Rattle.dm_base.specs.declared.ids.FileId.{FileId}
use Rattle.dm_maps.specs.declared.build_fault.BuildFault.{BuildFault}
use Rattle.crate_tables.proofs.crate_filling.fill_by.Goals as goal

pub returns-in_err-table-clause-fault : goal.returns-in_err-table-clause-fault
returns-in_err-table-clause-fault c =
    passed c.from_residual-in_err-table.result c.in_err-table.field-0.0 _ c.from_residual-in_err-table.ensures.1
    (let f : BuildFault = c.in_err-table.field-0.0 in
    let w = c.args.builder.now in
    let rows = c.args.externs.now.items in
    let view : c.view_of-view.result ≡ spec.view_of c.args.files.now c.args.krate c.args.described.now c.args.list.now = c.view_of-view.ensures in
    let attrs : c.in_ok-attributes.attributes.items ≡ spec.attributes_of c.args.files.now c.args.described.now c.args.list.now =
    c.in_ok-attributes.ensures ∙ ap (λ (r : FileId). crate_attributes c.args.list.now c.args.files.now r) c.root_file_id.ensures in
    let ds : c.dependencies.result.now ≡ c.args.described.now.dependencies = c.dependencies.ensures in
    subst (λ (x : CrateView × List CrateAttribute × List Dependency). IsShortage (spec.ListRunsOut x.0 x.2 (library_name x.0.edition x.1 x.2) (spec.prepared w x.0.krate x.1 x.2) rows) f)
    (λ i. (view i, attrs i, ds i)) c.in_err-table.ensures.fault)

pub returns-clause-filled : goal.returns-clause-filled
returns-clause-filled c =
    let w = c.args.builder.now in
    let rows = c.args.externs.now.items in
    let s : Linked = record { world = c.fill_listed.new.builder; table = c.in_ok-table.table; rows = c.fill_listed.new.externs.items } in
    let view : c.view_of-view.result ≡ spec.view_of c.args.files.now c.args.krate c.args.described.now c.args.list.now = c.view_of-view.ensures in
    let attrs : c.in_ok-attributes.attributes.items ≡ spec.attributes_of c.args.files.now c.args.described.now c.args.list.now =
    c.in_ok-attributes.ensures ∙ ap (λ (r : FileId). crate_attributes c.args.list.now c.args.files.now r) c.root_file_id.ensures in
    let ds : c.dependencies.result.now ≡ c.args.described.now.dependencies = c.dependencies.ensures in
    subst (λ (x : CrateView × List CrateAttribute × List Dependency). spec.HasList x.0 x.2 (library_name x.0.edition x.1 x.2) (spec.prepared w x.0.krate x.1 x.2) rows s)
    (λ i. (view i, attrs i, ds i)) c.in_ok-table.ensures.filled

use Rattle.crate_tables.proofs.ShortLemmas.{passed}
use Rattle.dm_base.specs.declared.ids.ModuleId.{ModuleId}
use Rattle.crate_tables.specs.CrateMaps.{Filled, with_crate_modules}
use Rattle.crate_items.specs.DeclaredItems.{declared_of}
use Rattle.crate_items.specs.ModuleItems.{AreItemsFrom}
use Rattle.crate_items.specs.declared.items.module_items.ModuleItem.{ModuleItem}
use Rattle.crate_tables.specs.CrateRoots.{root_id}
use Rattle.crate_tables.specs.NewModules.{CrateView}
use Rattle.std.specs.List.{flat_map}
use Rattle.std.proofs.Common.{◌≡◌, ◌∙◌, List, ap, subst}
use Rattle.crate_tables.proofs.CrowdLemmas.{items-reason, modules-reason}
use Rattle.crate_tables.proofs.KeptLemmas.{kept-further, kept-grown}
use Rattle.crate_tables.proofs.LibraryLemmas.{library-on}
use Rattle.crate_tables.proofs.crate_filling.fill_list.Goals as goal
use Rattle.crate_tables.specs.ExternCrates.{linkable}

pub add_all_bound-requires-clause-roots : goal.add_all_bound-requires-clause-roots
add_all_bound-requires-clause-roots c = c.add_modules.ensures.grown.all (linkable c.args.view.now.krate c.args.dependencies.now) c.requires.roots

pub returns-in_err-table-clause-stays : goal.returns-in_err-table-clause-stays
returns-in_err-table-clause-stays c = kept-grown _ _ c.in_err-table.ensures.grown

pub returns-in_err-add_all_bound-clause-stays : goal.returns-in_err-add_all_bound-clause-stays
returns-in_err-add_all_bound-clause-stays c = kept-further _ _ _ (kept-grown _ _ c.in_ok-table.ensures.grown) c.in_err-add_all_bound.ensures.stays

pub returns-clause-stays : goal.returns-clause-stays
returns-clause-stays c = kept-further _ _ _ (kept-grown _ _ c.in_ok-table.ensures.grown) c.in_ok-add_all_bound.ensures.stays

pub add_all_bound-requires-clause-library : goal.add_all_bound-requires-clause-library
add_all_bound-requires-clause-library c = library-on _ _ c.args.library (kept-grown _ _ c.add_modules.ensures.grown) c.requires.library

pub returns-in_err-table-clause-fault : goal.returns-in_err-table-clause-fault
returns-in_err-table-clause-fault c =
    passed c.from_residual-in_err-table.result c.in_err-table.field-0.0 _ c.from_residual-in_err-table.ensures.1
    (modules-reason c.args.view.now c.args.dependencies.now c.args.library c.args.builder.now c.args.externs.now.items c.in_ok-rows.rows.items
    (subst (λ (v : CrateView). AreItemsFrom v.list.sources 0 v.list.modules c.in_ok-rows.rows.items) c.view.view_is c.in_ok-rows.ensures.exact)
    c.root_id.result _ (c.root_id.ensures ∙ ap (λ (v : CrateView). root_id v.krate) c.view.view_is) c.in_err-table.ensures.fault)

pub returns-in_err-add_all_bound-clause-fault : goal.returns-in_err-add_all_bound-clause-fault
returns-in_err-add_all_bound-clause-fault c =
    passed c.from_residual-in_err-add_all_bound.result c.in_err-add_all_bound.field-0.0 _ c.from_residual-in_err-add_all_bound.ensures.1
    (let view = c.args.view.now in
    let w = c.args.builder.now in
    let now : Filled = record { world = c.add_modules.new.builder; table = c.in_ok-table.table } in
    let same : now ≡ with_crate_modules view w c.root_id.result = λ i. record { world = c.in_ok-table.ensures.world i; table = c.in_ok-table.ensures.table i } in
    let rows = c.in_ok-rows.rows.items in
    items-reason view c.args.dependencies.now c.args.library w c.args.externs.now.items rows
    (subst (λ (v : CrateView). AreItemsFrom v.list.sources 0 v.list.modules rows) c.view.view_is c.in_ok-rows.ensures.exact)
    now c.in_ok-items.items.items c.in_err-add_all_bound.field-0.0 (same ∙ ap (λ (m : ModuleId). with_crate_modules view w m) (c.root_id.ensures ∙ ap (λ (v : CrateView). root_id v.krate) c.view.view_is))
    (c.in_ok-items.ensures ∙ ap (λ (xs : List ModuleItem). flat_map (declared_of c.view.inside.edition c.view.inside.list.now c.view.inside.files.now) xs) c.as_slice.ensures.value
    ∙ ap (λ (v : CrateView). flat_map (declared_of v.edition v.list v.files) rows) c.view.view_is)
    c.in_err-add_all_bound.ensures.fault)

use Rattle.crate_tables.proofs.ShortLemmas.{passed}
use Rattle.crate_tables.specs.ExternCrates.{Linked, with_extern_crates}
use Rattle.crate_tables.specs.CrateTables.{Table}
use Rattle.crate_tables.specs.CrateMaps.{Filled}
use Rattle.crate_tables.specs.CrateFillings.{blocks_added, with_all_macros}
use Rattle.crate_tables.specs.Blocks.{with_blocks}
use Rattle.crate_tables.specs.NewModules.{CrateView}
use Rattle.crate_tables.specs.Numbers.{has_too_many, is_past, is_shortage}
use Rattle.crate_tables.specs.declared.extern_crates.ExternCrateRow.{ExternCrateRow}
use Rattle.crate_items.specs.declared.items.declared_item.DeclaredItem.{DeclaredItem}
use Rattle.dm_maps.specs.declared.build_fault.BuildFault.{BuildFault}
use Rattle.std.proofs.Common.{◌≡◌, ◌∙◌, List, ap, length, subst, true}
use Rattle.crate_tables.proofs.CrowdLemmas.{externs-crowd, lists-crowd, macros-crowd, others-crowd}
use Rattle.crate_tables.proofs.KeptLemmas.{kept-further, kept-grown}
use Rattle.crate_tables.proofs.all_items.add_all_items.Goals as goal
use Rattle.crate_tables.specs.CrateRoots.{root_id}
use Rattle.dm_maps.specs.declared.check.held.HeldId.TheVariants as held

pub add_all_macros-requires-clause-root : goal.add_all_macros-requires-clause-root
add_all_macros-requires-clause-root c = c.add_extern_crates.ensures.grown.known (held.Module (root_id c.args.view.now.krate)) c.requires.roots.0

pub returns-in_err-add_extern_crates-clause-stays : goal.returns-in_err-add_extern_crates-clause-stays
returns-in_err-add_extern_crates-clause-stays c = kept-grown _ _ c.in_err-add_extern_crates.ensures.grown

pub returns-in_err-add_all_macros-clause-stays : goal.returns-in_err-add_all_macros-clause-stays
returns-in_err-add_all_macros-clause-stays c = kept-further _ _ _ (kept-grown _ _ c.in_ok-add_extern_crates.ensures.grown) c.in_err-add_all_macros.ensures.stays

pub returns-in_err-add_written_items-clause-stays : goal.returns-in_err-add_written_items-clause-stays
returns-in_err-add_written_items-clause-stays c =
    kept-further _ _ _ (kept-further _ _ _ (kept-grown _ _ c.in_ok-add_extern_crates.ensures.grown) c.in_ok-add_all_macros.ensures.stays)
    (kept-grown _ _ c.in_err-add_written_items.ensures.grown)

pub returns-in_err-fill_lists-clause-stays : goal.returns-in_err-fill_lists-clause-stays
returns-in_err-fill_lists-clause-stays c =
    kept-further _ _ _
    (kept-further _ _ _ (kept-further _ _ _ (kept-grown _ _ c.in_ok-add_extern_crates.ensures.grown) c.in_ok-add_all_macros.ensures.stays)
    (kept-grown _ _ c.in_ok-add_written_items.ensures.grown))
    c.in_err-fill_lists.ensures.stays

pub returns-clause-stays : goal.returns-clause-stays
returns-clause-stays c =
    kept-further _ _ _
    (kept-further _ _ _ (kept-further _ _ _ (kept-grown _ _ c.in_ok-add_extern_crates.ensures.grown) c.in_ok-add_all_macros.ensures.stays)
    (kept-grown _ _ c.in_ok-add_written_items.ensures.grown))
    c.in_ok-fill_lists.ensures.stays

pub returns-in_err-add_extern_crates-clause-fault : goal.returns-in_err-add_extern_crates-clause-fault
returns-in_err-add_extern_crates-clause-fault c =
    passed c.from_residual-in_err-add_extern_crates.result c.in_err-add_extern_crates.field-0.0 _ c.from_residual-in_err-add_extern_crates.ensures.1
    (let view = c.args.view.now in
    let ds = c.args.dependencies.now in
    let items = c.args.items.items in
    let s : Linked = record { world = c.args.builder.now; table = c.args.table.now; rows = c.args.externs.now.items } in
    let t : Table = c.add_blocks.new.table in
    let blocks : t ≡ with_blocks view.list c.args.table.now items =
    c.in_ok-add_blocks.ensures.exact ∙ ap (λ (xs : List DeclaredItem). with_blocks c.view.inside.list.now c.args.table.now xs) c.as_slice-2.ensures.value
    ∙ ap (λ (v : CrateView). with_blocks v.list c.args.table.now items) c.view.view_is in
    let linked : with_extern_crates view ds (record { world = c.args.builder.now; table = t; rows = c.args.externs.now.items }) c.as_slice-3.result.now
    ≡ with_extern_crates view ds (blocks_added view s items) items =
    ap (λ (xs : List DeclaredItem). with_extern_crates view ds (record { world = c.args.builder.now; table = t; rows = c.args.externs.now.items }) xs) c.as_slice-3.ensures.value
    ∙ ap (λ (y : Table). with_extern_crates view ds (record { world = c.args.builder.now; table = y; rows = c.args.externs.now.items }) items) blocks in
    externs-crowd view ds s items _ c.in_err-add_extern_crates.field-0.0 linked c.in_err-add_extern_crates.ensures.fault)

pub returns-in_err-add_all_macros-clause-fault : goal.returns-in_err-add_all_macros-clause-fault
returns-in_err-add_all_macros-clause-fault c =
    passed c.from_residual-in_err-add_all_macros.result c.in_err-add_all_macros.field-0.0 _ c.from_residual-in_err-add_all_macros.ensures.1
    (let view = c.args.view.now in
    let ds = c.args.dependencies.now in
    let items = c.args.items.items in
    let s : Linked = record { world = c.args.builder.now; table = c.args.table.now; rows = c.args.externs.now.items } in
    let t : Table = c.add_blocks.new.table in
    let blocks : t ≡ with_blocks view.list c.args.table.now items =
    c.in_ok-add_blocks.ensures.exact ∙ ap (λ (xs : List DeclaredItem). with_blocks c.view.inside.list.now c.args.table.now xs) c.as_slice-2.ensures.value
    ∙ ap (λ (v : CrateView). with_blocks v.list c.args.table.now items) c.view.view_is in
    let linked : with_extern_crates view ds (record { world = c.args.builder.now; table = t; rows = c.args.externs.now.items }) c.as_slice-3.result.now
    ≡ with_extern_crates view ds (blocks_added view s items) items =
    ap (λ (xs : List DeclaredItem). with_extern_crates view ds (record { world = c.args.builder.now; table = t; rows = c.args.externs.now.items }) xs) c.as_slice-3.ensures.value
    ∙ ap (λ (y : Table). with_extern_crates view ds (record { world = c.args.builder.now; table = y; rows = c.args.externs.now.items }) items) blocks in
    let x : Linked = record { world = c.add_extern_crates.new.builder; table = c.add_extern_crates.new.table; rows = c.add_extern_crates.new.rows.items } in
    let f : BuildFault = c.in_err-add_all_macros.field-0.0 in
    macros-crowd view ds s items x f (c.in_ok-add_extern_crates.ensures.linked ∙ linked)
    (subst (λ (xs : List DeclaredItem). is_shortage (has_too_many (with_all_macros view (record { world = x.world; table = x.table }) xs).world) f ≡ true)
    c.as_slice-4.ensures.value c.in_err-add_all_macros.ensures.fault))

pub returns-in_err-add_written_items-clause-fault : goal.returns-in_err-add_written_items-clause-fault
returns-in_err-add_written_items-clause-fault c =
    passed c.from_residual-in_err-add_written_items.result c.in_err-add_written_items.field-0.0 _ c.from_residual-in_err-add_written_items.ensures.1
    (let view = c.args.view.now in
    let ds = c.args.dependencies.now in
    let items = c.args.items.items in
    let s : Linked = record { world = c.args.builder.now; table = c.args.table.now; rows = c.args.externs.now.items } in
    let t : Table = c.add_blocks.new.table in
    let blocks : t ≡ with_blocks view.list c.args.table.now items =
    c.in_ok-add_blocks.ensures.exact ∙ ap (λ (xs : List DeclaredItem). with_blocks c.view.inside.list.now c.args.table.now xs) c.as_slice-2.ensures.value
    ∙ ap (λ (v : CrateView). with_blocks v.list c.args.table.now items) c.view.view_is in
    let linked : with_extern_crates view ds (record { world = c.args.builder.now; table = t; rows = c.args.externs.now.items }) c.as_slice-3.result.now
    ≡ with_extern_crates view ds (blocks_added view s items) items =
    ap (λ (xs : List DeclaredItem). with_extern_crates view ds (record { world = c.args.builder.now; table = t; rows = c.args.externs.now.items }) xs) c.as_slice-3.ensures.value
    ∙ ap (λ (y : Table). with_extern_crates view ds (record { world = c.args.builder.now; table = y; rows = c.args.externs.now.items }) items) blocks in
    let x : Linked = record { world = c.add_extern_crates.new.builder; table = c.add_extern_crates.new.table; rows = c.add_extern_crates.new.rows.items } in
    let y : Filled = record { world = c.add_all_macros.new.builder; table = c.add_all_macros.new.table } in
    others-crowd view ds s items y c.in_err-add_written_items.field-0.0
    (c.in_ok-add_all_macros.ensures.added
    ∙ ap (λ (xs : List DeclaredItem). with_all_macros view (record { world = x.world; table = x.table }) xs) c.as_slice-4.ensures.value
    ∙ ap (λ (z : Linked). with_all_macros view (record { world = z.world; table = z.table }) items) (c.in_ok-add_extern_crates.ensures.linked ∙ linked))
    c.in_err-add_written_items.ensures.fault)

pub returns-in_err-fill_lists-clause-fault : goal.returns-in_err-fill_lists-clause-fault
returns-in_err-fill_lists-clause-fault c =
    passed c.from_residual-in_err-fill_lists.result c.in_err-fill_lists.field-0.0 _ c.from_residual-in_err-fill_lists.ensures.1
    (let view = c.args.view.now in
    let ds = c.args.dependencies.now in
    let items = c.args.items.items in
    let s : Linked = record { world = c.args.builder.now; table = c.args.table.now; rows = c.args.externs.now.items } in
    let t : Table = c.add_blocks.new.table in
    let blocks : t ≡ with_blocks view.list c.args.table.now items =
    c.in_ok-add_blocks.ensures.exact ∙ ap (λ (xs : List DeclaredItem). with_blocks c.view.inside.list.now c.args.table.now xs) c.as_slice-2.ensures.value
    ∙ ap (λ (v : CrateView). with_blocks v.list c.args.table.now items) c.view.view_is in
    let linked : with_extern_crates view ds (record { world = c.args.builder.now; table = t; rows = c.args.externs.now.items }) c.as_slice-3.result.now
    ≡ with_extern_crates view ds (blocks_added view s items) items =
    ap (λ (xs : List DeclaredItem). with_extern_crates view ds (record { world = c.args.builder.now; table = t; rows = c.args.externs.now.items }) xs) c.as_slice-3.ensures.value
    ∙ ap (λ (y : Table). with_extern_crates view ds (record { world = c.args.builder.now; table = y; rows = c.args.externs.now.items }) items) blocks in
    let x : Linked = record { world = c.add_extern_crates.new.builder; table = c.add_extern_crates.new.table; rows = c.add_extern_crates.new.rows.items } in
    let f : BuildFault = c.in_err-fill_lists.field-0.0 in
    lists-crowd view ds s items x f (c.in_ok-add_extern_crates.ensures.linked ∙ linked)
    (subst (λ (rs : List ExternCrateRow). is_shortage (is_past (length rs)) f ≡ true) c.as_slice-6.ensures.value c.in_err-fill_lists.ensures.fault))

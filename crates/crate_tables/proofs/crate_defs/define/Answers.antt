use Rattle.crate_tables.proofs.ShortLemmas.{item-short, passed}
use Rattle.std.proofs.Common.{length}
use Rattle.dm_maps.specs.Build.{item_def, with_item}
use Rattle.crate_tables.proofs.MoreCrates.{more-variants_of}
use Rattle.crate_tables.proofs.MoreSteps.{many-short}
use Rattle.std.proofs.Common.{◌≡◌, ◌∙◌, None, ap, subst, sym}
use Rattle.crate_tables.proofs.DefLemmas.{table-defined}
use Rattle.crate_tables.proofs.GrownLemmas.{grown-further}
use Rattle.crate_tables.specs.CrateDefs.{constructor_vis}
use Rattle.crate_tables.specs.CrateTables.{IsTableOf, with_named}
use Rattle.dm_base.specs.PerNs.{of_def}
use Rattle.dm_base.specs.declared.per_ns.PerNs.{PerNs}
use Rattle.dm_maps.specs.Holding.{def_holds}
use Rattle.crate_tables.proofs.crate_defs.define.Goals as goal

pub returns-clause-kept : goal.returns-clause-kept
returns-clause-kept c = λ k is seen built.
    let d = c.in_ok-def.def in
    let vis = c.args.seen.definition in
    let made = c.args.seen.constructor in
    let items : c.from_def-items.result ≡ of_def d vis (constructor_vis c.args.item.shape made) None =
    c.from_def-items.ensures ∙ ap (λ s. of_def d vis s None) c.constructor_vis-constructor.ensures in
    let later = c.in_ok-add_variants_of.ensures.grown in
    c.in_ok-push_def.ensures.kept c.add_variants_of.new.builder k (subst (IsTableOf c.add_variants_of.new.builder k) (sym (c.in_ok-push_named.ensures ∙ ap (λ (i : PerNs). with_named c.args.table.now c.args.m c.args.item.name i) items))
    (table-defined c.args.builder.now c.add_variants_of.new.builder k c.args.table.now c.args.m c.args.item.name d vis made c.args.item.shape
    (grown-further c.args.builder.now c.add_item.new.self c.add_variants_of.new.builder c.in_ok-def.ensures.added.grown later) c.requires (later.all (def_holds d) c.in_ok-def.ensures.added.known) is seen built))

pub returns-in_err-def-clause-fault : goal.returns-in_err-def-clause-fault
returns-in_err-def-clause-fault c =
    passed c.from_residual.result c.in_err-def.field-0.0 _ c.from_residual.ensures.1
    (let w = c.args.builder.now in
    let v = with_item w c.args.kind c.args.m in
    many-short v _ (more-variants_of v (item_def c.args.kind (length w.items)) c.args.variants.items) _ (item-short _ w c.args.kind c.args.m _ c.requires c.in_err-def.ensures.fault))

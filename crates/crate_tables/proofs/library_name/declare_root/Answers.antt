use Rattle.std.proofs.Common.{Some, None, subst, sym}
use Rattle.crate_tables.proofs.TableLemmas.{table-named, type-known}
use Rattle.crate_tables.specs.CrateTables.{IsTableOf, with_named}
use Rattle.dm_base.specs.PerNs.{type_alone}
use Rattle.dm_base.specs.declared.item_ids.ModuleDefId.TheVariants as def
use Rattle.dm_base.specs.declared.per_ns.PerNs.{PerNs}
use Rattle.crate_tables.proofs.library_name.declare_root.Goals as goal

pub returns-clause-kept : goal.returns-clause-kept
returns-clause-kept c =
    let w = c.args.builder.now in
    let t = c.args.table.now in
    let items = type_alone (def.ModuleId c.args.root) c.args.visibility None in
    subst (IsTableOf w c.args.krate) (sym c.in_ok-push_named.ensures)
    (subst (λ (i : PerNs). IsTableOf w c.args.krate (with_named t c.args.home (Some c.args.name) i)) (sym c.types-items.ensures)
    (table-named w c.args.krate t (record { home = c.args.home; name = c.args.name; items = items }) c.requires.table
    (record { known = (c.requires.home, type-known w (def.ModuleId c.args.root) c.args.visibility (c.requires.root, tt) c.requires.seen) })))

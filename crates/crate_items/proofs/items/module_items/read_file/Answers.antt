use Rattle.std.proofs.Common.{subst, sym}
use Rattle.std.specs.Prelude.{IsSome, nat_eq}
use Rattle.std.specs.Map.{lookup}
use Rattle.crate_items.specs.ModuleItems.{AreTables}
use Rattle.crate_items.proofs.TableLemmas.{Rows, last_found, tables_behind}
use Rattle.crate_items.proofs.items.module_items.read_file.Goals as goal

pub returns-clause-right : goal.returns-clause-right
returns-clause-right c =
    subst (AreTables c.args.list.now.sources) (sym c.in_ok-add_file.ensures)
    (tables_behind c.args.list.now.sources c.args.tables.now.entries c.args.file.0 c.in_ok-items.items c.requires c.in_ok-items.ensures)

pub returns-clause-there : goal.returns-clause-there
returns-clause-there c =
    subst (λ (entries : Rows). IsSome (lookup (nat_eq c.args.file.0) entries)) (sym c.in_ok-add_file.ensures)
    (last_found c.args.tables.now.entries c.args.file.0 c.in_ok-items.items)

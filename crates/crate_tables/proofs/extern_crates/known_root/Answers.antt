use Rattle.std.proofs.Common.{Option, subst, sym}
use Rattle.std.specs.Prelude.{IfSome, IsTrue}
use Rattle.crate_tables.proofs.ExternLemmas.{linked-known}
use Rattle.dm_maps.specs.declared.check.held.HeldId.TheVariants as held
use Rattle.dm_base.specs.declared.ids.ModuleId.{ModuleId}
use Rattle.dm_maps.specs.Known.{knows}
use Rattle.crate_tables.proofs.extern_crates.known_root.Goals as goal

pub returns-clause-known : goal.returns-clause-known
returns-clause-known c =
    subst (λ (r : Option ModuleId). IfSome r (λ m. IsTrue (knows c.args.builder.now (held.Module m)))) (sym c.linked_root.ensures)
    (linked-known c.args.builder.now c.args.krate c.args.dependencies.now c.args.linked c.requires)

use Rattle.std.proofs.Common.{List, subst, sym}
use Rattle.dm_imports.specs.declared.glob_import.GlobImport.{GlobImport}
use Rattle.dm_imports.specs.declared.named_import.NamedImport.{NamedImport}
use Rattle.dm_imports.specs.Bound.{AreBound}
use Rattle.dm_collector.proofs.bind_crates.bind_one.Goals as goal

pub returns : goal.returns
returns c = λ x is gs us. record {
  used = c.use_macros_of.new.world;
  macros = λ d. c.in_ok-use_macros_of.ensures.reached d x us;
  shown = c.use_macros_of.ensures.shown;
  names =
      subst (λ (z : List NamedImport × List GlobImport). AreBound z.0 z.1 (record { world = c.use_macros_of.new.world; flags = c.args.flags.now })
      (record { world = c.bind_crate.new.world; flags = c.bind_crate.new.flags })) (λ i. (sym is i, sym gs i)) c.bind_crate.ensures;
}

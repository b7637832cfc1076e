use Rattle.std.proofs.Common.{IsSome, subst, sym}
use Rattle.def_diagnostics.proofs.KnownLemmas.{krate_there}
use Rattle.def_diagnostics.proofs.macro_meaning.local_of.Goals as goal

pub unwrap-krate-requires : goal.unwrap-krate-requires
unwrap-krate-requires c = subst (λ o. IsSome o) (sym c.module_krate.ensures.value) (krate_there c.args.world.now c.args.m c.requires)

use Rattle.std.proofs.Common.{IsSome, subst, sym}
use Rattle.dm_imports.proofs.CrateLemmas.{krate-there}
use Rattle.dm_imports.proofs.paths.around.local_of.Goals as goal

pub unwrap-krate-requires : goal.unwrap-krate-requires
unwrap-krate-requires c = subst (λ o. IsSome o) (sym c.module_krate.ensures.value) (krate-there c.args.world.now c.args.m c.requires)

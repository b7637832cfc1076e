use Rattle.std.proofs.Common.{subst}
use Rattle.dm_retry.specs.Settled.{IsSettled}
use Rattle.dm_retry.proofs.SettleLemmas.{rests}
use Rattle.dm_retry.proofs.imports.Imports.rests.Goals as goal

pub returns : goal.returns
returns c = λ k idle. rests c.args.self.now (subst IsSettled c.self.view_is c.self.invariant) k idle

use Rattle.std.proofs.Common.{◌<◌, length, arith}
use Rattle.dm_scope.specs.Rare.{censored_trait}
use Rattle.dm_scope.proofs.ChangeLemmas.{changed_before}
use Rattle.dm_scope.proofs.rare.changes.censor_traits.Goals as goal

pub loop-unnamed-preserved : goal.loop-unnamed-preserved
loop-unnamed-preserved c =
    let within : c.loop-unnamed.unnamed-index < length c.args.traits.now = omega arith in
    changed_before (censored_trait c.args.krate) _ c.args.traits.now c.loop-unnamed.traits c.loop-unnamed.unnamed-index within c.loop-unnamed.invariant

use Rattle.std.proofs.Common.{◌∙◌, ap, sym, subst}
use Rattle.dm_base.specs.declared.per_ns.PerNs.{PerNs}
use Rattle.dm_scope.specs.Scope.{bound_in}
use Rattle.dm_maps.specs.World.{scope_of}
use Rattle.dm_maps.specs.Sound.{IsSound, IsCheckedWorld}
use Rattle.dm_maps.specs.Known.{KnowsAll}
use Rattle.dm_maps.specs.Holding.{res_holds}
use Rattle.dm_maps.proofs.world.World.bound_in.Goals as goal

pub returns-clause-known : goal.returns-clause-known
returns-clause-known c =
    let sound : IsSound c.args.self.now = (subst IsCheckedWorld c.self.view_is c.self.invariant.0).sound in
    let P : PerNs → Type 0 = λ x. KnowsAll c.args.self.now (res_holds x) in
    subst P (sym (c.bound_in.ensures ∙ ap (λ w. bound_in (scope_of w c.args.m) c.args.name.now) c.self.view_is)) (sound.bound c.args.m c.args.name.now)

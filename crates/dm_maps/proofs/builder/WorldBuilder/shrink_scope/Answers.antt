use Rattle.std.proofs.Common.{◌∙◌, ap, sym}
use Rattle.std.specs.Option.{option_copied_mut}
use Rattle.dm_maps.specs.World.{with_scope}
use Rattle.dm_maps.proofs.ScopeWrites.{with_scope-own}
use Rattle.dm_maps.proofs.builder.WorldBuilder.shrink_scope.Goals as goal

pub returns-in-Some : goal.returns-in-Some
returns-in-Some c =
    ap (with_scope c.args.self.now c.args.m) c.shrink_to_fit.ensures
    ∙ with_scope-own c.in-Some.scope.now c.args.self.now c.args.m (sym c.scope_mut.ensures.value ∙ ap option_copied_mut c.in-Some.is)

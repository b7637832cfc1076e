use Rattle.std.proofs.Common.{◌∙◌, IsSome, ap, subst, sym}
use Rattle.std.specs.Option.{option_copied_mut}
use Rattle.dm_base.specs.Names.{find_name}
use Rattle.dm_scope.specs.Scope.{Scope}
use Rattle.dm_maps.specs.GoesOn.{seen_macro}
use Rattle.dm_maps.specs.World.{module_of, with_scope}
use Rattle.dm_maps.proofs.ScopeChanges.{lent-read}
use Rattle.dm_maps.proofs.builder.WorldBuilder.update_visibility_macros.Goals as goal

pub update_visibility_macros-requires : goal.update_visibility_macros-requires
update_visibility_macros-requires c =
    let lent = lent-read c.unwrap-scope.result.now (module_of c.args.self.now c.args.m) (sym c.scope_mut.ensures.value ∙ ap option_copied_mut c.unwrap-scope.ensures) in
    subst (λ (s : Scope). IsSome (find_name c.args.name.now s.macros.items)) (sym lent) c.requires.bound

pub returns : goal.returns
returns c =
    let a = c.args in
    let lent = lent-read c.unwrap-scope.result.now (module_of a.self.now a.m) (sym c.scope_mut.ensures.value ∙ ap option_copied_mut c.unwrap-scope.ensures) in
    ap (with_scope a.self.now a.m) (c.update_visibility_macros.ensures ∙ ap (λ s. seen_macro s a.name.now a.vis) lent)

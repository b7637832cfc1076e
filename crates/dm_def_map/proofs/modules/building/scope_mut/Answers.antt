use Rattle.std.proofs.Common.{◌∙◌, inl, ap, Some}
use Rattle.std.specs.Option.{option_map}
use Rattle.dm_scope.specs.Scope.{Scope}
use Rattle.dm_def_map.specs.Maps.{with_scope_at, put_scope, nth_scope}
use Rattle.dm_def_map.proofs.modules.building.scope_mut.Goals as goal

pub returns-in-Some : goal.returns-in-Some
returns-in-Some c =
    let there = c.in-Some.ensures.value in
    let same = λ (w : Scope). ap (λ o. put_scope c.modules.inside.entries.entries c.args.i o w) there ∙ ap (λ s. with_scope_at s c.args.i w) c.modules.view_is in (
      ap (λ f. inl (c.scope_mut.result.ghost_name, f)) (λ j w. same w j),
      record {
        writes_back = tt;
        value = ap Some c.scope_mut.ensures.value ∙ ap (option_map (λ d. d.scope)) there ∙ ap (λ s. nth_scope s c.args.i) c.modules.view_is;
      },
    )

use Rattle.std.proofs.Common.{◌∙◌, ap, subst, sym}
use Rattle.std.specs.Option.{option_map}
use Rattle.dm_base.specs.declared.per_ns.Namespace.TheVariants.{Types}
use Rattle.dm_maps.specs.World.{scope_of}
use Rattle.dm_scope.specs.Scope.{bound_in}
use Rattle.dm_imports.specs.Meanings.{IsNamed, in_namespace, type_meaning}
use Rattle.dm_imports.proofs.MeaningLemmas.{namespace-named}
use Rattle.dm_imports.proofs.paths.shown.bound_at.Goals as goal

pub returns-in-Types-clause-named : goal.returns-in-Types-clause-named
returns-in-Types-clause-named c =
    let w = c.args.world.now in
    let items = bound_in (scope_of w c.args.m) c.args.name.now in
    let is = c.type_in-in-Types.ensures ∙ ap (option_map type_meaning) (c.copied.ensures ∙ c.type_in.ensures.value) in
    subst (IsNamed w) (sym is) (namespace-named w items c.type_in.ensures.known Types)

pub returns-in_default : goal.returns-in_default
returns-in_default c =
    let w = c.args.world.now in
    record {
      value = c.in_namespace.ensures ∙ ap (in_namespace c.args.namespace) c.bound_in-items.ensures.value;
      named = subst (IsNamed w) (sym c.in_namespace.ensures) (namespace-named w c.bound_in-items.result c.bound_in-items.ensures.known c.args.namespace);
    }

use Rattle.std.proofs.Common.{◌∙◌, sym, ap}
use Rattle.dm_scope.specs.Flags.{has_flag, has_name}
use Rattle.dm_scope.specs.FlagLaws.{has_flag-flags_of}
use Rattle.dm_scope.proofs.bindings.glob_flags.GlobFlags.contains.Goals as goal

pub returns-in-Some : goal.returns-in-Some
returns-in-Some c =
    c.contains.ensures
    ∙ ap (has_name c.args.name.now) c.in-Some.ensures.value
    ∙ sym (has_flag-flags_of c.self.inside.names.entries c.args.m c.args.name.now)
    ∙ ap (λ f. has_flag f c.args.m c.args.name.now) c.self.view_is

pub returns-in-None : goal.returns-in-None
returns-in-None c =
    ap (has_name c.args.name.now) c.in-None.ensures.value
    ∙ sym (has_flag-flags_of c.self.inside.names.entries c.args.m c.args.name.now)
    ∙ ap (λ f. has_flag f c.args.m c.args.name.now) c.self.view_is

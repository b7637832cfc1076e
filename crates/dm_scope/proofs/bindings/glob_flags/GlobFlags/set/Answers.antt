use Rattle.std.proofs.Common.{◌∙◌, ap, cond, refl, subst, true, IsSome}
use Rattle.std.specs.List.{list_any}
use Rattle.dm_base.specs.Names.{same_name}
use Rattle.dm_scope.specs.Flags.{has_name, with_flag}
use Rattle.dm_scope.specs.Outcomes.{on-err}
use Rattle.dm_scope.specs.FlagLaws.{flags_of-with, flags_of-kept}
use Rattle.dm_scope.proofs.bindings.glob_flags.GlobFlags.set.Goals as goal

pub returns-in_err-add_name-in-Some-clause-err : goal.returns-in_err-add_name-in-Some-clause-err
returns-in_err-add_name-in-Some-clause-err c =
    let set = c.add_name.new.names in
    on-err _ (flags_of-kept c.args.m c.self.inside.names.entries (c.get_mut.follows.lender set).entries set ((c.get_mut.follows.holds set).3 (subst IsSome c.in-Some.ensures.value refl)).0
    (λ n. ap (list_any (same_name n)) c.in_err-add_name-in-Some.ensures.err ∙ ap (has_name n) c.in-Some.ensures.value)
    ∙ c.self.view_is)

pub returns-in_ok-add_name-in-Some-clause-ok : goal.returns-in_ok-add_name-in-Some-clause-ok
returns-in_ok-add_name-in-Some-clause-ok c =
    let set = c.add_name.new.names in
    flags_of-with c.args.m c.self.inside.names.entries (c.get_mut.follows.lender set).entries set ((c.get_mut.follows.holds set).3 (subst IsSome c.in-Some.ensures.value refl)).0 c.args.name true
    (λ n. c.in_ok-add_name-in-Some.ensures.has n ∙ ap (λ o. cond (same_name c.args.name n) true (has_name n o)) c.in-Some.ensures.value)
    ∙ ap (λ f. with_flag f c.args.m c.args.name true) c.self.view_is

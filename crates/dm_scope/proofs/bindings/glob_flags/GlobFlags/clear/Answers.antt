use Rattle.std.proofs.Common.{◌∙◌, ap, cond, false, refl, subst, sym, IsSome}
use Rattle.dm_base.specs.Names.{same_name}
use Rattle.dm_scope.specs.Flags.{flags_of, has_name, with_flag}
use Rattle.dm_scope.specs.FlagLaws.{flags_of-with, has_flag-flags_of, with_flag-same}
use Rattle.dm_scope.proofs.bindings.glob_flags.GlobFlags.clear.Goals as goal
use Rattle.dm_scope.proofs.bindings.glob_flags.GlobFlags.clear.Goals.{in-Some, in_default}

pub returns : goal.returns
returns c = elim c.match-get_mut.branch [
  | in-Some w ↦
      let set = w.take_name.new.names in
      ap (λ s. flags_of s.names.entries) w.self-inside-is
      ∙ flags_of-with c.args.m c.self.inside.names.entries (c.get_mut.follows.lender set).entries set ((c.get_mut.follows.holds set).3 (subst IsSome w.in-Some.ensures.value refl)).0 c.args.name.now false
      (λ n. w.take_name.ensures n ∙ ap (λ o. cond (same_name c.args.name.now n) false (has_name n o)) w.in-Some.ensures.value)
      ∙ ap (λ f. with_flag f c.args.m c.args.name.now false) c.self.view_is
  | in_default w ↦
      ap (λ s. flags_of s.names.entries) w.self-inside-is
      ∙ ap (λ m. flags_of m.entries) c.get_mut.follows.holds-at-none
      ∙ sym (with_flag-same (flags_of c.self.inside.names.entries) c.args.m c.args.name.now false
      (has_flag-flags_of c.self.inside.names.entries c.args.m c.args.name.now ∙ ap (has_name c.args.name.now) (sym w.in_default.ensures.value)))
      ∙ ap (λ f. with_flag f c.args.m c.args.name.now false) c.self.view_is
]

use Rattle.std.proofs.Common.{◌∙◌, ap, sym, cond, true}
use Rattle.std.specs.List.{list_any}
use Rattle.dm_base.specs.Names.{same_name}
use Rattle.dm_scope.specs.Flags.{has_name}
use Rattle.dm_scope.specs.FlagLaws.{flags_of-with}
use Rattle.dm_scope.proofs.bindings.glob_flags.add_first.Goals as goal

pub returns-clause-ok : goal.returns-clause-ok
returns-clause-ok c =
    flags_of-with c.args.m c.args.flags.now.entries c.insert.new.self.entries c.add_name.new.names c.in_ok-insert.ensures.updates.0 c.args.name true
    (λ n. c.in_ok-add_name.ensures.has n
    ∙ ap (λ ks. cond (same_name c.args.name n) true (list_any (same_name n) ks)) c.new-names.ensures.empty
    ∙ ap (λ o. cond (same_name c.args.name n) true (has_name n o)) (sym c.requires))

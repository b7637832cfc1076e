use Rattle.std.proofs.Common.{◌∙◌, ap, cond, false, rules, sym}
use Rattle.dm_scope.specs.Shadowing.{reading, import_of, is_glob_by, writes, flagged}
use Rattle.dm_scope.specs.Flags.{has_flag, with_flag}
use Rattle.dm_scope.specs.FlagLaws.{with_flag-same}
use Rattle.dm_scope.proofs.bindings.Bindings.push_named.Goals as goal

pub returns-then-is_first : goal.returns-then-is_first
returns-then-is_first g c =
    let r = reading g.I.PartialEq.eq g.D.PartialEq.eq g.I.ImportSource.globs g.I.ImportSource.narrowed g.I.ImportSource.widened g.D.Definition.widened_def in
    let fs = c.args.flags.now in
    let m = c.args.m in
    let name = c.args.name in
    let by = import_of r c.args.import in
    let first = c.if-is_first.true in
    record {
      answer = search rules;
      bindings = search rules;
      flags = sym (
          ap (λ o. cond (writes r o (has_flag fs m name) c.args.item.now by) (flagged r fs m name by) fs) (c.is_first.ensures.vacant first)
          ∙ ap (λ b. with_flag fs m name b) (ap (is_glob_by g.I.ImportSource.globs) (sym c.narrowed-narrow.ensures) ∙ c.is_first.ensures.no_glob first)
          ∙ with_flag-same fs m name false (c.is_first.ensures.unset first)
          );
      err = tt;
      err_flags = tt;
    }

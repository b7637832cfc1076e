use Rattle.std.proofs.Common.{◌∙◌, ◌+◌, Bool, Some, ap, arith, cond, sym}
use Rattle.std.specs.List.{list_any}
use Rattle.dm_base.specs.declared.imports.ImportId.{ImportId}
use Rattle.dm_retry.specs.Known.{double_from, same_leaf}
use Rattle.dm_retry.specs.Rounds.{Pending}
use Rattle.dm_retry.proofs.pending.first_double.Goals as goal

pub returns-then-has_import : goal.returns-then-has_import
returns-then-has_import c =
    let place = c.imports.place in
    let after = c.in-Some.after.now in
    let twice = c.has_import.ensures ∙ ap (λ (i : ImportId). list_any (λ (q : Pending). same_leaf i q.import) after) c.import.ensures in
    sym (c.imports.invariant.same ∙ ap (double_from place) c.in-Some.ensures.cases.0 ∙ ap (λ (b : Bool). cond b (Some place) (double_from (place + 1) after)) (sym twice ∙ c.if-has_import.true))

pub imports-preserved : goal.imports-preserved
imports-preserved c =
    let place = c.imports.place in
    let after = c.in-Some.after.now in
    let twice = c.has_import.ensures ∙ ap (λ (i : ImportId). list_any (λ (q : Pending). same_leaf i q.import) after) c.import.ensures in
    record {
      same = c.imports.invariant.same ∙ ap (double_from place) c.in-Some.ensures.cases.0 ∙ ap (λ (b : Bool). cond b (Some place) (double_from (place + 1) after)) (sym twice ∙ c.if-has_import.false);
      fits = omega (arith, c.in-Some.ensures.cases.1, c.imports.invariant.fits);
    }

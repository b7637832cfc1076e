use Rattle.std.proofs.Common.{◌∙◌, ◌++◌, ◌∷◌, [], ◌<◌, ℕ, Some, Vec, Global, append-nil, ap, arith, false, length, sym, true}
use Rattle.std.proofs.Math.Bool.{beq}
use Rattle.std.specs.Option.{option_eq}
use Rattle.dm_retry.proofs.UnresolvedLemmas.{listed-more}
use Rattle.dm_retry.proofs.imports.Imports.unresolved.Goals as goal
use Rattle.dm_retry.proofs.imports.Imports.unresolved.Goals.{then-eq+in_ok-push, else-eq}

pub loop-i-preserved : goal.loop-i-preserved
loop-i-preserved c =
    let s = c.args.self.now in
    let i = c.loop-i.i in
    let within : i < length s.pending = omega (arith, c.loop-i-test.true, c.loop-i.invariant.end) in
    let test = c.eq.ensures ∙ ap (λ o. option_eq beq o (Some true)) c.is_unresolved.ensures in
    record {
      places = elim c.if-eq.branch [
        | then-eq+in_ok-push w ↦ ap (λ (v : Vec ℕ Global). v.items) w.places-is ∙ w.in_ok-push.ensures.items ∙ ap (λ l. l ++ i ∷ []) c.loop-i.invariant.places ∙ sym (listed-more s i within true (sym w.if-eq.true ∙ test))
        | else-eq w ↦ ap (λ (v : Vec ℕ Global). v.items) w.places-is ∙ c.loop-i.invariant.places ∙ sym (append-nil _) ∙ sym (listed-more s i within false (sym w.if-eq.false ∙ test))
      ];
      end = c.loop-i.invariant.end;
    }

use Rattle.std.proofs.Common.{◌≡◌, ◌∙◌, ◌+◌, ◌<◌, ◌≤◌, ◌||◌, add-one, ap, ap₂, arith, length, subst, sym, true≢false}
use Rattle.std.proofs.lemmas.Result.{err_from_is_err_and}
use Rattle.dm_retry.specs.Rounds.{State, is_due, refused_at}
use Rattle.dm_retry.proofs.RoundLemmas.{last-turn, length-tries, next-turn}
use Rattle.dm_retry.proofs.rounds.try_due.Goals as goal

pub overflow_add-tries : goal.overflow_add-tries
overflow_add-tries c =
    let s = c.args.imports.now in
    let all : length c.due.imports.pending ≡ length s.pending = ap (λ (t : State). length t.pending) c.due.invariant.state ∙ length-tries s c.due.from in
    let within : c.in-Some.i < length c.due.imports.pending = c.in-Some.ensures.within in
    let low : c.due.from ≤ c.in-Some.i = c.in-Some.ensures.first.0 in
    let below : c.in-Some.i < c.len-len.result = omega (arith, c.len-len.ensures) in
    omega arith

pub overflow_add-from : goal.overflow_add-from
overflow_add-from c =
    let s = c.args.imports.now in
    let all : length c.due.imports.pending ≡ length s.pending = ap (λ (t : State). length t.pending) c.due.invariant.state ∙ length-tries s c.due.from in
    let within : c.in-Some.i < length c.due.imports.pending = c.in-Some.ensures.within in
    let below : c.in-Some.i < c.len-len.result = omega (arith, c.len-len.ensures) in
    omega arith

pub returns-in_err-answer-clause-err : goal.returns-in_err-answer-clause-err
returns-in_err-answer-clause-err c =
    let s = c.args.imports.now in
    let inv = c.due.invariant in
    let i = c.in-Some.i in
    let first = c.in-Some.ensures.first in
    let all : length c.due.imports.pending ≡ length s.pending = ap (λ (t : State). length t.pending) inv.state ∙ length-tries s c.due.from in
    let turn = next-turn s c.due.imports c.try_at.new.self c.due.from i inv.state first inv.rests in
    let p = err_from_is_err_and c.from_residual.result c.from_residual.ensures.1 in
    rw p.1 (record {
      place = i;
      within = subst (λ n. i < n) all c.in-Some.ensures.within;
      is_due = ap (λ (t : State). is_due t i) turn.here ∙ first.1;
      state = c.in_err-answer.ensures.err ∙ ap (λ (t : State). refused_at t i) (sym turn.here);
      tries = ap (λ n. n + 1) (inv.tries ∙ sym turn.before) ∙ add-one _;
    })

pub due-smaller : goal.due-smaller
due-smaller c =
    let s = c.args.imports.now in
    let all : length c.due.imports.pending ≡ length s.pending = ap (λ (t : State). length t.pending) c.due.invariant.state ∙ length-tries s c.due.from in
    let within : c.in-Some.i < length c.due.imports.pending = c.in-Some.ensures.within in
    let low : c.due.from ≤ c.in-Some.i = c.in-Some.ensures.first.0 in
    omega arith

pub due-preserved : goal.due-preserved
due-preserved c =
    let s = c.args.imports.now in
    let inv = c.due.invariant in
    let i = c.in-Some.i in
    let first = c.in-Some.ensures.first in
    let all : length c.due.imports.pending ≡ length s.pending = ap (λ (t : State). length t.pending) inv.state ∙ length-tries s c.due.from in
    let below : i < length c.due.imports.pending = c.in-Some.ensures.within in
    let low : c.due.from ≤ i = first.0 in
    let few : c.due.tries ≤ c.due.from = inv.few in
    let turn = next-turn s c.due.imports c.try_at.new.self c.due.from i inv.state first inv.rests in
    record {
      within = omega arith;
      state = turn.state c.in_ok-answer.ensures.state;
      answer = ap₂ (λ a b. a || b) inv.answer c.in_ok-answer.ensures.answer ∙ sym turn.answer;
      tries = ap (λ n. n + 1) inv.tries ∙ sym turn.turns;
      few = omega arith;
      idle = λ zero. absurd (omega arith);
      rests = c.rests-in-Some.ensures;
      untouched = λ none. absurd (true≢false (sym first.1 ∙ ap (λ (t : State). is_due t i) (inv.untouched none) ∙ none i));
      untried = λ none. absurd (true≢false (sym first.1 ∙ ap (λ (t : State). is_due t i) (inv.untouched none) ∙ none i));
    }

pub returns-clause-state : goal.returns-clause-state
returns-clause-state c =
    let s = c.args.imports.now in
    let inv = c.due.invariant in
    let last = last-turn s c.due.imports c.due.from (length s.pending) inv.state inv.within c.in_default.ensures.first inv.rests in
    inv.state ∙ sym last.state

pub returns-clause-answer : goal.returns-clause-answer
returns-clause-answer c =
    let s = c.args.imports.now in
    let inv = c.due.invariant in
    let last = last-turn s c.due.imports c.due.from (length s.pending) inv.state inv.within c.in_default.ensures.first inv.rests in
    inv.answer ∙ sym last.answer

pub returns-clause-tries : goal.returns-clause-tries
returns-clause-tries c =
    let s = c.args.imports.now in
    let inv = c.due.invariant in
    let last = last-turn s c.due.imports c.due.from (length s.pending) inv.state inv.within c.in_default.ensures.first inv.rests in
    inv.tries ∙ sym last.turns

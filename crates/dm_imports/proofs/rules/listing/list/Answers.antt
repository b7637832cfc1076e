use native.Mathlib.Omega.{arith}
use Rattle.std.proofs.Common.{◌≡◌, ◌∙◌, ◌+◌, ℕ, ap, length, not, subst, sym}
use Rattle.std.proofs.lemmas.List.{length_push}
use Rattle.std.specs.List.{Contains}
use Rattle.dm_base.specs.Names.{Name}
use Rattle.dm_maps.specs.World.{scope_of}
use Rattle.dm_scope.specs.Sorted.{names_of, seen}
use Rattle.dm_imports.proofs.ListingLemmas.{ListsBefore, lists-all, lists-more}
use Rattle.dm_imports.proofs.rules.listing.list.Goals as goal

pub loop-number-preserved : goal.loop-number-preserved
loop-number-preserved c =
    let vs = c.loop-number.modules.items in
    let v = c.in_ok-module_names.field-0 in
    let i = c.loop-number.number in
    let pushed = c.in_ok-push.ensures.items in
    record {
      number = ap length pushed ∙ length_push vs v ∙ ap (λ n. n + 1) c.loop-number.invariant.number;
      listed = subst (λ us. ListsBefore (λ ns. seen ns.items) c.args.world.now us (i + 1)) (sym pushed)
          (lists-more (λ ns. seen ns.items) c.args.world.now vs v i c.loop-number.invariant.number c.loop-number.invariant.listed c.in_ok-module_names.ensures.listed);
    }

pub returns-then-is_none : goal.returns-then-is_none
returns-then-is_none c = λ m less n has.
    let unknown = sym c.scope_of.ensures.there ∙ c.is_none.ensures ∙ ap not c.if-is_none.true in
    lists-all (λ ns. seen ns.items) c.args.world.now c.loop-number.modules.items c.loop-number.number c.loop-number.invariant.listed unknown m n has

pub returns : goal.returns
returns c = λ m less n has.
    let vs = c.loop-number.modules.items in
    let v = c.in_ok-module_names-2.field-0 in
    let i = c.loop-number.number in
    let end : i ≡ 4294967295 = omega (arith, c.loop-number-test.false, c.loop-number.auto.number-end) in
    let own = subst (λ (j : ℕ). (x : Name) → Contains (names_of (scope_of c.args.world.now (record { 0 = j }))) x → Contains (seen v.items) x) (sym end) c.in_ok-module_names-2.ensures.listed in
    let listed = subst (λ us. ListsBefore (λ ns. seen ns.items) c.args.world.now us (i + 1)) (sym c.in_ok-push-2.ensures.items)
    (lists-more (λ ns. seen ns.items) c.args.world.now vs v i c.loop-number.invariant.number c.loop-number.invariant.listed own) in
    listed m (omega (arith, less, end)) n has

use Rattle.std.proofs.Common.{◌≡◌, refl, ◌∙◌, ◌++◌, ◌∷◌, [], ap, sym, subst, false, IsTrue}
use Rattle.dm_maps.proofs.Ids.{ModuleId}
use Rattle.dm_base.specs.Tree.{same_module}
use Rattle.dm_scope.specs.Push.{push_answer, scope_after, globs_after}
use Rattle.dm_scope.specs.PushLaw.{PushLaw, itself}
use Rattle.dm_scope.specs.Scope.{Scope}
use Rattle.dm_scope.specs.Shows.{ScopePush, Shows}
use Rattle.dm_maps.specs.declared.check.held.HeldId.TheVariants as held
use Rattle.dm_maps.specs.PushRes.{with_push}
use Rattle.dm_maps.specs.Cut.{cut}
use Rattle.dm_base.specs.declared.per_ns.Namespace.TheVariants.{Types, Values, Macros}
use Rattle.dm_maps.specs.Known.{knows}
use Rattle.dm_maps.specs.RecordCounts.{IsCounted}
use Rattle.dm_maps.proofs.RecordGrowth.{counted-pushed}
use Rattle.dm_maps.specs.Sound.{IsCheckedWorld}
use Rattle.dm_maps.specs.Stays.{StaysKnown}
use Rattle.dm_maps.specs.World.{World, scope_of, with_scope}
use Rattle.dm_maps.proofs.CutPush.{push-cut}
use Rattle.dm_maps.proofs.LawLemmas.{world_law}
use Rattle.dm_maps.proofs.PushedScope.{scope_after-holds}
use Rattle.dm_maps.proofs.ScopeWrites.{scope_of-own, scope_of-other, scope-known, IsCheckedWorld-scoped}
use Rattle.dm_maps.proofs.StayLemmas.{push-known}
use Rattle.dm_maps.proofs.WorldFacts.{scope-there}
use Rattle.dm_maps.proofs.world.World.push_res.Goals as goal
use Rattle.dm_maps.proofs.world.World.push_res.Goals.{After-lawful}

pub push_res-requires : goal.push_res-requires
push_res-requires c = record {
  there = scope-there c.self.inside.tables c.self.invariant.0.lawful c.args.lookup.0 (subst (λ (w : World). IsTrue (knows w (held.Module c.args.lookup.0))) (sym c.self.view_is) c.requires.known.0);
}

-- the scope that the push leaves, and the world with it
abbrev left : After-lawful → Scope
left c = scope_after (scope_of c.args.self.now c.args.lookup.0) c.args.glob_imports.now c.args.lookup.0 c.args.lookup.1 c.args.res c.args.import

world_is : (c : After-lawful) → c.push_res.new.self ≡ with_scope c.args.self.now c.args.lookup.0 (left c)
world_is c = c.in_ok-answer.ensures.world ∙ ap (λ w. with_push w c.args.glob_imports.now c.args.lookup.0 c.args.lookup.1 c.args.res c.args.import) c.self.view_is

was_checked : (c : After-lawful) → IsCheckedWorld c.args.self.now
was_checked c = subst IsCheckedWorld c.self.view_is c.self.invariant.0

scope_is : (c : After-lawful) → scope_of c.push_res.new.self c.args.lookup.0 ≡ left c
scope_is c =
    ap (λ w. scope_of w c.args.lookup.0) (world_is c)
    ∙ scope_of-own (left c) c.args.self.now c.args.lookup.0 (scope-there c.args.self.now (was_checked c).lawful c.args.lookup.0 c.requires.known.0)

other_is : (c : After-lawful) (k : ModuleId) → same_module c.args.lookup.0 k ≡ false → scope_of c.push_res.new.self k ≡ scope_of c.args.self.now k
other_is c k other = ap (λ w. scope_of w k) (world_is c) ∙ scope_of-other (left c) c.args.self.now (was_checked c).lawful c.args.lookup.0 k other

is_checked : (c : After-lawful) → IsCheckedWorld c.push_res.new.self
is_checked c =
    let w = c.args.self.now in
    IsCheckedWorld-scoped w c.push_res.new.self c.args.lookup.0 (left c) (was_checked c) c.lawful.ensures (world_is c)
    (scope_after-holds (λ h. IsTrue (knows w h)) (scope_of w c.args.lookup.0) c.args.glob_imports.now c.args.lookup.0 c.args.lookup.1 c.args.res c.args.import (scope-known w c.args.lookup.0 (was_checked c)) c.requires.known)

-- the counts go on with the records that the scope has more
is_counted : (c : After-lawful) → IsCounted c.push_res.new.self c.push_res.new.records
is_counted c =
    let w = c.self.inside.tables in
    let m = c.args.lookup.0 in
    let there = scope-there w c.self.invariant.0.lawful m (subst (λ (x : World). IsTrue (knows x (held.Module m))) (sym c.self.view_is) c.requires.known.0) in
    let after = counted-pushed w c.self.invariant.0.lawful m there c.args.glob_imports.now c.args.lookup.1 c.args.res c.args.import c.push_res.new.self c.in_ok-answer.ensures.world in
    record {
      types = after Types _ _ _ _ c.self.invariant.1.types refl refl c.in_ok-answer.ensures.counts.types;
      values = after Values _ _ _ _ c.self.invariant.1.values refl refl c.in_ok-answer.ensures.counts.values;
      macros = after Macros _ _ _ _ c.self.invariant.1.macros refl refl c.in_ok-answer.ensures.counts.macros;
    }

pub invariant_of-self-2 : goal.invariant_of-self-2
invariant_of-self-2 c = (is_checked c, is_counted c)

pub returns-clause-checked : goal.returns-clause-checked
returns-clause-checked c = (is_checked c).checked

pub returns-clause-gives : goal.returns-clause-gives
returns-clause-gives c =
    let a = c.args in
    let e = c.in_ok-answer.ensures.gives in
    record {
      answer = e.answer ∙ ap (λ w. push_answer (scope_of w a.lookup.0) a.glob_imports.now a.lookup.0 a.lookup.1 a.res a.import) c.self.view_is;
      scope = scope_is c;
      globs = e.globs ∙ ap (λ w. globs_after (scope_of w a.lookup.0) a.glob_imports.now a.lookup.0 a.lookup.1 a.res a.import) c.self.view_is;
      err = tt;
      err_globs = tt;
    }

pub returns-clause-others : goal.returns-clause-others
returns-clause-others c k other = other_is c k other

pub returns-clause-others_stay : goal.returns-clause-others_stay
returns-clause-others_stay c N other =
    ap (λ w. cut w N) (world_is c) ∙ push-cut c.args.self.now N c.args.glob_imports.now c.args.lookup.0 c.args.lookup.1 c.args.res c.args.import other

pub returns-clause-stays_known : goal.returns-clause-stays_known
returns-clause-stays_known c =
    subst (StaysKnown c.args.self.now) (sym (world_is c)) (push-known c.args.self.now c.args.glob_imports.now c.args.lookup.0 c.args.lookup.1 c.args.res c.args.import)

pub returns-clause-shown : goal.returns-clause-shown
returns-clause-shown c ps shown =
    let more = ps ++ record { name = c.args.lookup.1; res = c.args.res; by = c.args.import } ∷ [] in
    let at : (w : World) → Type 0 = λ w. Shows (scope_after (scope_of w c.args.lookup.0) c.args.glob_imports.now c.args.lookup.0 c.args.lookup.1 c.args.res c.args.import) c.push_res.new.glob_imports c.args.lookup.0 more in
    let before = subst (λ w. Shows (scope_of w c.args.lookup.0) c.args.glob_imports.now c.args.lookup.0 ps) (sym c.self.view_is) shown in
    subst (λ s. Shows s c.push_res.new.glob_imports c.args.lookup.0 more) (sym (scope_is c)) (subst at c.self.view_is (c.in_ok-answer.ensures.shown ps before))

pub returns-clause-elsewhere : goal.returns-clause-elsewhere
returns-clause-elsewhere c k other ps shown =
    subst (λ s. Shows s c.push_res.new.glob_imports k ps) (sym (other_is c k other)) (c.in_ok-answer.ensures.elsewhere (scope_of c.args.self.now k) k ps other shown)

pub returns-clause-law : goal.returns-clause-law
returns-clause-law c =
    let a = c.args in
    let p : ScopePush = record { name = a.lookup.1; res = a.res; by = a.import } in
    let h = c.push_res.new.glob_imports in
    let in_scope = subst (λ w. PushLaw itself (scope_of w a.lookup.0) a.glob_imports.now (scope_after (scope_of w a.lookup.0) a.glob_imports.now a.lookup.0 a.lookup.1 a.res a.import) h a.lookup.0 p) c.self.view_is c.in_ok-answer.ensures.law in
    world_law a.self.now c.push_res.new.self a.glob_imports.now h a.lookup.0 (left c) p
    (scope-there a.self.now (was_checked c).lawful a.lookup.0 c.requires.known.0) (world_is c) (scope_is c) (other_is c) in_scope

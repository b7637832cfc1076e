use Rattle.std.proofs.Common.{◌≡◌, ◌∙◌, IsTrue, ap, refl, subst, sym}
use Rattle.dm_scope.specs.Scope.{Scope}
use Rattle.dm_maps.specs.declared.check.held.HeldId.TheVariants as held
use Rattle.dm_maps.specs.Cut.{cut}
use Rattle.dm_maps.specs.GoesOn.{and_trait, with_unnamed_trait}
use Rattle.dm_maps.specs.Known.{knows}
use Rattle.dm_maps.specs.PushRes.{StaysShown}
use Rattle.dm_maps.specs.Sound.{IsCheckedWorld}
use Rattle.dm_maps.specs.World.{World, scope_of, with_scope}
use Rattle.dm_maps.proofs.CutPush.{with_scope-cut}
use Rattle.dm_maps.proofs.Rescoped.{IsRescoped, rescoped}
use Rattle.dm_maps.proofs.ScopeChanges.{fits-trait, trait-shown}
use Rattle.dm_maps.proofs.WorldFacts.{scope-there}
use Rattle.dm_maps.proofs.world.World.push_unnamed_trait.Goals as goal
use Rattle.dm_maps.proofs.world.World.push_unnamed_trait.Goals.{After-lawful}

pub push_unnamed_trait-requires : goal.push_unnamed_trait-requires
push_unnamed_trait-requires c = record {
  there = scope-there c.self.inside.tables c.self.invariant.0.lawful c.args.m (subst (λ (w : World). IsTrue (knows w (held.Module c.args.m))) (sym c.self.view_is) c.requires.known.0);
}

-- the scope with the trait more, and the world with that
abbrev left : After-lawful → Scope
left c = and_trait (scope_of c.args.self.now c.args.m) c.args.tr c.args.vis c.args.import

world_is : (c : After-lawful) → c.push_unnamed_trait.new.self ≡ with_scope c.args.self.now c.args.m (left c)
world_is c = c.in_ok-push_unnamed_trait.ensures.ok ∙ ap (λ w. with_unnamed_trait w c.args.m c.args.tr c.args.vis c.args.import) c.self.view_is

done : (c : After-lawful) → IsRescoped c.args.self.now c.push_unnamed_trait.new.self c.self.inside.records c.args.m (left c)
done c =
    let w : World = c.args.self.now in
    rescoped c.self.inside.tables w c.push_unnamed_trait.new.self c.self.inside.records c.args.m (left c) c.self.view_is c.self.invariant c.lawful.ensures (world_is c)
    (λ was. fits-trait w was c.args.m c.requires.known.0 c.args.tr c.args.vis c.args.import c.requires.known.1)

pub invariant_of-self-2 : goal.invariant_of-self-2
invariant_of-self-2 c = (done c).kept

pub returns-clause-checked : goal.returns-clause-checked
returns-clause-checked c = (done c).kept.0.checked

pub returns-clause-scopes : goal.returns-clause-scopes
returns-clause-scopes c = (done c).scopes

pub returns-clause-stays_known : goal.returns-clause-stays_known
returns-clause-stays_known c = (done c).stays

pub returns-clause-shown : goal.returns-clause-shown
returns-clause-shown c g k =
    subst (λ (v : World). StaysShown c.args.self.now g v g k) (sym (world_is c))
    (trait-shown c.args.self.now (subst IsCheckedWorld c.self.view_is c.self.invariant.0).lawful c.args.m c.requires.known.0 c.args.tr c.args.vis c.args.import g k)

pub returns-clause-stays : goal.returns-clause-stays
returns-clause-stays c N = ap (λ w. cut w N) (world_is c) ∙ with_scope-cut c.args.self.now N c.args.m (left c) refl

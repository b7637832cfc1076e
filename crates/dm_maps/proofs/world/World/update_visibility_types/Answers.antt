use Rattle.std.proofs.Common.{◌≡◌, ◌∙◌, IsSome, IsTrue, ap, subst, sym, true≢false}
use Rattle.dm_base.specs.Names.{Name, find_name}
use Rattle.dm_scope.specs.Scope.{Scope}
use Rattle.dm_maps.specs.declared.check.held.HeldId.TheVariants as held
use Rattle.dm_maps.specs.Cut.{cut}
use Rattle.dm_maps.specs.GoesOn.{seen_type, with_type_seen}
use Rattle.dm_maps.specs.Known.{knows}
use Rattle.dm_maps.specs.Sound.{IsCheckedWorld}
use Rattle.dm_maps.specs.World.{World, scope_of, with_scope}
use Rattle.dm_maps.proofs.CutPush.{with_scope-cut}
use Rattle.dm_maps.proofs.Rescoped.{IsRescoped, rescoped}
use Rattle.dm_maps.proofs.ScopeChanges.{fits-type, known-bound, scope-bound, seen_type-cut}
use Rattle.dm_maps.proofs.world.World.update_visibility_types.Goals as goal
use Rattle.dm_maps.proofs.world.World.update_visibility_types.Goals.{After-lawful}

abbrev Binds : Name → Scope → Type 0
Binds n s = IsSome (find_name n s.types.items)

pub update_visibility_types-requires : goal.update_visibility_types-requires
update_visibility_types-requires c =
    let bound = subst (λ (w : World). Binds c.args.name.now (scope_of w c.args.m)) (sym c.self.view_is) c.requires.bound in record {
      there = scope-bound c.self.inside.tables c.args.m (Binds c.args.name.now) (λ e. true≢false (sym e)) bound;
      bound = bound;
    }

-- the scope that shows the item so, and the world with that
abbrev left : After-lawful → Scope
left c = seen_type (scope_of c.args.self.now c.args.m) c.args.name.now c.args.vis

world_is : (c : After-lawful) → c.update_visibility_types.new.self ≡ with_scope c.args.self.now c.args.m (left c)
world_is c = c.update_visibility_types.ensures ∙ ap (λ w. with_type_seen w c.args.m c.args.name.now c.args.vis) c.self.view_is

there : (c : After-lawful) → IsCheckedWorld c.args.self.now → IsTrue (knows c.args.self.now (held.Module c.args.m))
there c was = known-bound c.args.self.now was.lawful c.args.m (scope-bound c.args.self.now c.args.m (Binds c.args.name.now) (λ e. true≢false (sym e)) c.requires.bound)

done : (c : After-lawful) → IsRescoped c.args.self.now c.update_visibility_types.new.self c.self.inside.records c.args.m (left c)
done c =
    let w : World = c.args.self.now in
    rescoped c.self.inside.tables w c.update_visibility_types.new.self c.self.inside.records c.args.m (left c) c.self.view_is c.self.invariant c.lawful.ensures (world_is c)
    (λ was. fits-type w was c.args.m (there c was) c.args.name.now c.args.vis c.requires.known)

pub invariant_of-self : goal.invariant_of-self
invariant_of-self c = (done c).kept

pub returns-clause-checked : goal.returns-clause-checked
returns-clause-checked c = (done c).kept.0.checked

pub returns-clause-own : goal.returns-clause-own
returns-clause-own c = (done c).scopes

pub returns-clause-stays_known : goal.returns-clause-stays_known
returns-clause-stays_known c = (done c).stays

pub returns-clause-others_stay : goal.returns-clause-others_stay
returns-clause-others_stay c N other =
    ap (λ w. cut w N) (world_is c)
    ∙ with_scope-cut c.args.self.now N c.args.m (left c) (seen_type-cut N (scope_of c.args.self.now c.args.m) c.args.name.now c.args.vis other)

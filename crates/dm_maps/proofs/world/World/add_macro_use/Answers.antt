use Rattle.std.proofs.Common.{◌≡◌, ◌∙◌, ap, refl, subst, sym}
use Rattle.dm_def_map.specs.declared.map_change.MapChange.TheVariants.{MacroUse}
use Rattle.dm_def_map.specs.MapChanges.{changed}
use Rattle.dm_maps.specs.Added.{IsGrown}
use Rattle.dm_maps.specs.BuildMaps.{with_map}
use Rattle.dm_maps.specs.Cut.{cut}
use Rattle.dm_maps.specs.RecordCounts.{IsCounted}
use Rattle.dm_maps.specs.Sound.{IsCheckedWorld}
use Rattle.dm_maps.specs.Stays.{StaysKnown}
use Rattle.dm_maps.specs.World.{World}
use Rattle.dm_maps.proofs.MapChanges.{fits-macro_use, macro_use-cut, macro_use-stays, map-goes_on}
use Rattle.dm_maps.proofs.SetLemmas.{set-maps}
use Rattle.dm_maps.proofs.world.World.add_macro_use.Goals as goal
use Rattle.dm_maps.proofs.world.World.add_macro_use.Goals.{After-lawful}

world_is : (c : After-lawful) → c.change_map.new.self ≡ with_map c.args.self.now c.args.map (changed (MacroUse c.args.name (c.args.m, c.args.brought_by)))
world_is c = c.in_ok-change_map.ensures.ok ∙ ap (λ w. with_map w c.args.map (changed (MacroUse c.args.name (c.args.m, c.args.brought_by)))) c.self.view_is

goes_on : (c : After-lawful) → IsCheckedWorld c.change_map.new.self × IsCounted c.change_map.new.self c.self.inside.records
goes_on c =
    let w = c.args.self.now in
    map-goes_on w c.change_map.new.self c.self.inside.records c.args.map (changed (MacroUse c.args.name (c.args.m, c.args.brought_by)))
    (subst IsCheckedWorld c.self.view_is c.self.invariant.0) (subst (λ (x : World). IsCounted x c.self.inside.records) c.self.view_is c.self.invariant.1)
    c.lawful.ensures (world_is c) (fits-macro_use w c.args.name (c.args.m, c.args.brought_by) c.requires.known.0)

pub invariant_of-self-2 : goal.invariant_of-self-2
invariant_of-self-2 c = goes_on c

pub returns-clause-checked : goal.returns-clause-checked
returns-clause-checked c = (goes_on c).0.checked

pub returns-clause-stays_known : goal.returns-clause-stays_known
returns-clause-stays_known c = subst (StaysKnown c.args.self.now) (sym (world_is c)) (macro_use-stays c.args.self.now c.args.map c.args.name (c.args.m, c.args.brought_by))

pub returns-clause-grown : goal.returns-clause-grown
returns-clause-grown c = subst (IsGrown c.args.self.now) (sym (world_is c)) (set-maps c.args.self.now c.args.map (changed (MacroUse c.args.name (c.args.m, c.args.brought_by))) (λ m. refl))

pub returns-clause-others_stay : goal.returns-clause-others_stay
returns-clause-others_stay c N other = ap (λ w. cut w N) (world_is c) ∙ macro_use-cut c.args.self.now N c.args.map c.args.name (c.args.m, c.args.brought_by) other

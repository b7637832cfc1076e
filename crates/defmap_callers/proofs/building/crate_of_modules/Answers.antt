use Rattle.std.proofs.Common.{◌≡◌, ◌∙◌, ◌++◌, ◌∷◌, [], Some, arith, ap, length, length-append}
use Rattle.std.specs.Option.{option_and_then}
use Rattle.std.proofs.lemmas.List.Elements.{All-push, All-same, All-weaker}
use Rattle.dm_base.specs.declared.ids.ModuleId.{ModuleId}
use Rattle.dm_maps.specs.declared.check.held.HeldId.TheVariants as held
use Rattle.dm_maps.specs.Added.{IsGrown}
use Rattle.dm_maps.specs.World.{World}
use Rattle.dm_maps.specs.declared.place.Place.{Place}
use Rattle.defmap_callers.specs.Building.{IsBelow}
use Rattle.defmap_callers.proofs.building.crate_of_modules.Goals as goal

-- a module below another stays there
below-on : (w v : World) → IsGrown w v → (q m : ModuleId) → IsBelow w q m → IsBelow v q m
below-on w v grown q m is = record { known = grown.known (held.Module m) is.known; parent = ap (option_and_then (λ (p : Place). p.parent)) (grown.places m is.known) ∙ is.parent }

pub loop-name-preserved : goal.loop-name-preserved
loop-name-preserved c =
    let added = c.in_ok-m.ensures.added in
    let w = c.loop-name.builder in
    let v = c.add_module.new.self in
    let q : ModuleId = record { 0 = 0 } in
    let old = c.loop-name.modules.items in
    let m = c.in_ok-m.m in
    let listed = c.in_ok-list.ensures.ok in record {
      count = omega (arith, ap length listed, length-append old (m ∷ []), length-append c.loop-name.yielded (c.in-Some.name ∷ []), c.loop-name.invariant.count);
      below =
          All-same (IsBelow v q) c.list.new.modules.items (old ++ m ∷ []) listed
          (All-push (IsBelow v q) old m (All-weaker (IsBelow w q) (IsBelow v q) (λ x h. below-on w v added.grown q x h) old c.loop-name.invariant.below) (record { known = added.known; parent = added.parent }));
      empty = λ x. added.grown.scopes x ∙ c.loop-name.invariant.empty x;
    }

use Rattle.std.proofs.Common.{◌≡◌, ◌<◌, ◌∙◌, Some, is_some, length, slice_get, sym, ap, subst, refl}
use Rattle.std.proofs.lemmas.Option.{slice_get_read}
use Rattle.dm_maps.specs.Maps.{IsFree}
use Rattle.dm_maps.specs.World.{World, maps_of}
use Rattle.dm_maps.specs.Build.{next_module}
use Rattle.dm_maps.proofs.BuilderGrowth.{IsKept, IsKept-child}
use Rattle.dm_maps.proofs.WorldFacts.{module-there}
use Rattle.dm_maps.proofs.WorldGrowth.{IsFree-next, child-made}
use Rattle.dm_maps.specs.Tables.{tables_of}
use Rattle.dm_maps.proofs.builder.WorldBuilder.push_module.Goals as goal

pub add_child_in-requires-clause-free : goal.add_child_in-requires-clause-free
add_child_in-requires-clause-free c =
    let w : World = tables_of c.self.inside in
    let at = c.index-at.result.now.map in
    subst (IsFree (maps_of w) at) (ap next_module c.self.view_is ∙ sym c.next_module-m.ensures) (IsFree-next w c.self.invariant.0.0 at)

-- the place of its parent
there : (c : goal.In_ok-add_child_in) → slice_get c.self.inside.places.items c.args.parent.0 ≡ Some c.index-at.result.now
there c =
    let places = c.self.inside.places.items in
    let known = subst (λ (w : World). c.args.parent.0 < length w.places) (sym c.self.view_is) c.requires.known in
    slice_get_read places (length places) c.args.parent.0 c.index-at.result.now refl known c.index-at.ensures

pub add_child_in-requires-clause-there : goal.add_child_in-requires-clause-there
add_child_in-requires-clause-there c =
    let places = c.self.inside.places.items in
    let known = subst (λ (w : World). c.args.parent.0 < length w.places) (sym c.self.view_is) c.requires.known in
    let at = slice_get_read places (length places) c.args.parent.0 c.index-at.result.now refl known c.index-at.ensures in
    let d = module-there (tables_of c.self.inside) c.self.invariant.0.0 c.args.parent c.index-at.result.now at in
    ap is_some d.1

pub returns-clause-ok : goal.returns-clause-ok
returns-clause-ok c =
    let h = c.in_ok-add_child_in.ensures in
    child-made (tables_of c.self.inside) c.args.self.now c.self.view_is c.args.parent c.args.name c.args.added c.index-at.result.now c.next_place-place.result c.next_module-m.result c.add_child_in.new.maps c.add_child_in.new.places.items
    (there c) c.next_place-place.ensures c.next_module-m.ensures h.places h.maps

pub invariant_of-self-2 : goal.invariant_of-self-2
invariant_of-self-2 c =
    let w : World = c.args.self.now in
    let ups = c.self.inside.ladders in
    let ls = c.self.inside.block_lists.items in
    let r = c.requires in
    let kept : IsKept (w, ups, ls) = subst (λ (x : World). IsKept (x, ups, ls)) c.self.view_is c.self.invariant in
    let at = ap (λ (x : World). slice_get x.places c.args.parent.0) (sym c.self.view_is) ∙ there c in
    subst IsKept (λ i. (sym (returns-clause-ok c) i, sym c.in_ok-add_child_in.ensures.ladders i, ls)) (IsKept-child w ups ls kept r.room c.args.parent c.index-at.result.now c.args.name c.args.added at r.parent r.childless)

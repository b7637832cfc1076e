use Rattle.std.proofs.Common.{◌∙◌, sym, ap, map}
use Rattle.std.specs.Option.{option_map, option_and_then}
use Rattle.smallvec.specs.SmallVec.{SmallVec}
use Rattle.dm_scope.specs.declared.derives.DeriveMacroInvocation.{DeriveMacroInvocation}
use Rattle.dm_scope.specs.Derives.{derive_of, derives_of, find_derive}
use Rattle.dm_scope.proofs.DeriveLemmas.{lookup-derives_of, fill_slot-present, fill_slot-absent}
use Rattle.dm_scope.proofs.rare.derives.fill_slot.Goals as goal

pub fill_list-requires : goal.fill_list-requires
fill_list-requires c x h =
    let found = sym c.in-Some.ensures.value in
    c.requires x (ap (option_and_then (find_derive c.args.id)) (lookup-derives_of c.args.adt c.args.table.now.entries ∙ ap (option_map (λ (v : SmallVec DeriveMacroInvocation). map derive_of v.items)) found) ∙ h)

pub returns-in-Some : goal.returns-in-Some
returns-in-Some c =
    let found = sym c.in-Some.ensures.value in
    ap derives_of (c.get_mut.follows.holds c.fill_list.new.derives).0
    ∙ fill_slot-present c.args.adt c.args.id c.args.idx c.args.call c.args.table.now.entries c.in-Some.derives.now c.fill_list.new.derives found c.fill_list.ensures

pub returns-in_default : goal.returns-in_default
returns-in_default c =
    let found = sym c.in_default.ensures.value in
    ap (λ m. derives_of m.entries) c.get_mut.follows.holds-at-none
    ∙ sym (fill_slot-absent c.args.adt c.args.id c.args.idx c.args.call c.args.table.now.entries found)

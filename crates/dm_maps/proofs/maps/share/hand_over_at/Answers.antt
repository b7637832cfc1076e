use Rattle.std.proofs.Common.{◌≡◌, ◌<◌, Some, length, refl, rules, slice_get}
use Rattle.std.proofs.lemmas.Option.{slice_get_read}
use Rattle.dm_maps.specs.BuildCrateData.{map_with_shared}
use Rattle.dm_maps.proofs.EntryChanges.{unchanged, entry-set}
use Rattle.dm_maps.proofs.maps.share.hand_over_at.Goals as goal

pub returns-in-Some-clause-maps : goal.returns-in-Some-clause-maps
returns-in-Some-clause-maps c =
    let xs = c.args.maps.now.items in
    let within : c.args.i < length xs = let h = c.in-Some.ensures.variant.0 refl in search rules in
    let there : slice_get xs c.args.i ≡ Some c.in-Some.map.now = slice_get_read xs (length xs) c.args.i c.in-Some.map.now refl within c.in-Some.ensures.value in
    entry-set xs c.args.i (map_with_shared c.args.krate c.args.new.now) c.in-Some.map.now c.hand_over.new.map there c.hand_over.ensures.map

pub returns-in_default-clause-maps : goal.returns-in_default-clause-maps
returns-in_default-clause-maps c = unchanged c.args.maps.now.items c.args.i (map_with_shared c.args.krate c.args.new.now) c.in_default.ensures.item.0

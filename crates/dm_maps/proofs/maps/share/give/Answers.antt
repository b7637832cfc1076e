use Rattle.std.proofs.Common.{◌≡◌, ◌<◌, Some, length, refl, rules, slice_get, sym}
use Rattle.std.proofs.lemmas.Bool.{ltb-false}
use Rattle.std.proofs.lemmas.Option.{slice_get_past, slice_get_read}
use Rattle.dm_maps.proofs.SharedMaps.{own-set, own-none}
use Rattle.dm_maps.proofs.maps.share.give.Goals as goal

pub returns-in-Some : goal.returns-in-Some
returns-in-Some c =
    let xs = c.args.maps.now.items in
    let k = c.args.krate.0 in
    let within : k < length xs = let h = c.in-Some.ensures.variant.0 refl in search rules in
    let there : slice_get xs k ≡ Some c.in-Some.map.now = slice_get_read xs (length xs) k c.in-Some.map.now refl within c.in-Some.ensures.value in
    own-set c.args.krate c.args.shared.value xs c.in-Some.map.now c.set_shared.new.map c.requires there c.set_shared.ensures

pub returns-in_default : goal.returns-in_default
returns-in_default c =
    let xs = c.args.maps.now.items in
    own-none c.args.krate c.args.shared.value xs c.requires (slice_get_past xs c.args.krate.0 (ltb-false c.args.krate.0 (length xs) (sym c.in_default.ensures.item.0)))

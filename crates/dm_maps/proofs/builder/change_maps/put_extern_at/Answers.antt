use Rattle.std.proofs.Common.{◌≡◌, ◌<◌, refl, rules, length, Some, slice_get}
use Rattle.std.proofs.lemmas.Option.{slice_get_read}
use Rattle.dm_def_map.specs.Maps.{LocalMap}
use Rattle.dm_def_map.specs.Locals.{with_extern}
use Rattle.dm_maps.proofs.EntryChanges.{entry-changed}
use Rattle.dm_maps.proofs.builder.change_maps.put_extern_at.Goals as goal

pub returns-clause-ok : goal.returns-clause-ok
returns-clause-ok c =
    let xs = c.args.locals.now.items in
    let within : c.args.k < length xs = let h = c.in-Some.ensures.variant.0 refl in search rules in
    let there : slice_get xs c.args.k ≡ Some c.in-Some.local.now = slice_get_read xs (length xs) c.args.k c.in-Some.local.now refl within c.in-Some.ensures.value in
    entry-changed xs c.args.k (λ (L : LocalMap). with_extern L c.args.name c.args.m c.args.named_by) c.insert.result c.in-Some.local.now _ there c.insert.ensures.ok
